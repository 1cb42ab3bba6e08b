use Rattle.std.proofs.Common.{◌≡◌, map, take}
use Rattle.line_view.specs.Held.{entry_of}
use Rattle.line_faults.proofs.checked.present_lines.Given as goal

abbrev pub invariant-loop-entry : goal.invariant-loop-entry
invariant-loop-entry l = map entry_of l.present ≡ take l.entry-index l.entries
