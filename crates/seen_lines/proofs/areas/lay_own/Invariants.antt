use Rattle.std.proofs.Common.{◌≡◌}
use Rattle.line_view.specs.Knowledge.{Lines, IsInOrder, lines_in}
use Rattle.seen_lines.specs.Seen.{IsOfArea}
use Rattle.seen_lines.proofs.Gathered.{own_front}
use Rattle.seen_lines.proofs.areas.lay_own.Given as goal

abbrev pub invariant-loop-key : goal.invariant-loop-key
invariant-loop-key l = record {
  area : IsOfArea l.area l.fn.found → IsOfArea l.area l.found;
  laid : (committed : Lines) → IsInOrder committed → l.fn.found ≡ lines_in l.area committed → l.found ≡ lines_in l.area (own_front l.key-index l.key-items committed);
}
