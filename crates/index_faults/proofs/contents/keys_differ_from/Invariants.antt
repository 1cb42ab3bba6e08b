use Rattle.std.proofs.Common.{◌≡◌, drop}
use Rattle.index_faults.specs.Contents.{keys_differ_from}
use Rattle.index_faults.proofs.contents.keys_differ_from.Given as goal

abbrev pub invariant-loop-pair : goal.invariant-loop-pair
invariant-loop-pair l = keys_differ_from l.before (drop l.pair-index l.rest) ≡ keys_differ_from l.first l.rest
