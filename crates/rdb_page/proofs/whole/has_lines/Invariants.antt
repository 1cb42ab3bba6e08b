use Rattle.std.proofs.Common.{ℕ, ◌<◌}
use Rattle.rdb_types.specs.declared.keys.Line.{Line}
use Rattle.rdb_page.specs.Lines.{IsLine}
use Rattle.rdb_page.proofs.whole.has_lines.Given as goal

abbrev pub invariant-loop-line : goal.invariant-loop-line
invariant-loop-line l = record {
  lines : (k : ℕ) → k < l.line → (value : Line) × IsLine l.page l.class k value;
}
