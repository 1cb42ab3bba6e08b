use Rattle.std.proofs.Common.{◌≡◌, map, take}
use Rattle.line_view.specs.Held.{entry_of}
use Rattle.seen_lines.proofs.areas.present_lines.Given as goal

abbrev pub invariant-loop-key : goal.invariant-loop-key
invariant-loop-key l = map entry_of l.lines.items ≡ take l.key-index l.key-items
