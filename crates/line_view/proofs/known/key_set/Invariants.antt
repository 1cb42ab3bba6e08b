use Rattle.std.proofs.Common.{◌≡◌, map, drop}
use Rattle.line_view.specs.Knowledge.{keys_of}
use Rattle.line_view.specs.Held.{ordered, ordered_from, entry_of}
use Rattle.line_view.proofs.known.key_set.Given as goal

abbrev pub invariant-loop-line : goal.invariant-loop-line
invariant-loop-line l = ordered_from l.keys.keys (keys_of (map entry_of (drop l.line-index l.lines))) ≡ ordered (keys_of (map entry_of l.lines))
