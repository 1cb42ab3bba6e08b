use Rattle.std.proofs.Common.{◌≡◌, drop}
use Rattle.line_view.specs.Held.{ordered, ordered_from}
use Rattle.line_faults.proofs.keys.ascending.Given as goal

abbrev pub invariant-loop-key : goal.invariant-loop-key
invariant-loop-key l = ordered_from l.set.keys (drop l.key-index l.keys) ≡ ordered l.keys
