use Rattle.std.proofs.Common.{◌≡◌, drop}
use Rattle.line_view.specs.Knowledge.{keys_of}
use Rattle.line_view.specs.Held.{ordered, ordered_from}
use Rattle.lines_at_rest.proofs.view.key_set.Given as goal

abbrev pub invariant-loop-entry : goal.invariant-loop-entry
invariant-loop-entry l = ordered_from l.keys.keys (keys_of (drop l.entry-index l.entry-items)) ≡ ordered (keys_of l.lines)
