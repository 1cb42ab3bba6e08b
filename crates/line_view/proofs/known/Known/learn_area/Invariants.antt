use Rattle.std.proofs.Common.{◌≡◌, map, take}
use Rattle.line_view.specs.Knowledge.{Lines, IsInOrder, Agrees, lines_in}
use Rattle.line_view.specs.Held.{entry_of, knows, with_lines}
use Rattle.line_view.proofs.known.Known.learn_area.Given as goal

abbrev pub invariant-loop-line : goal.invariant-loop-line
invariant-loop-line l =
    (l.self ≡ with_lines (take l.line-index (map entry_of l.lines)) l.fn.self)
    × ((all : Lines) → IsInOrder all → Agrees (knows l.fn.self) all → map entry_of l.lines ≡ lines_in l.fn.area all → Agrees (knows l.self) all)
