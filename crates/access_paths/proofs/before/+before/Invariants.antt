use Rattle.std.proofs.Common.{◌≡◌, drop}
use Rattle.access_paths.proofs.Steps.{all_before}
use Rattle.access_paths.proofs.before.+before.Given as goal

abbrev pub invariant-are_before-loop-operation : goal.invariant-are_before-loop-operation
invariant-are_before-loop-operation l = all_before l.start l.operations ≡ all_before l.start (drop l.operation-index l.operations)
