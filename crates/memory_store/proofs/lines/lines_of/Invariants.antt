use Rattle.std.proofs.Common.{◌≡◌, take, map}
use Rattle.line_view.specs.Knowledge.{lines_in}
use Rattle.line_view.specs.Held.{entry_of}
use Rattle.memory_store.proofs.lines.lines_of.Given as goal

abbrev pub invariant-loop-key : goal.invariant-loop-key
invariant-loop-key l = map entry_of l.found.items ≡ lines_in l.area (take l.key-index l.lines)
