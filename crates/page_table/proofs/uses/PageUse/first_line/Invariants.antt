use Rattle.std.proofs.Common.{ℕ, ◌<◌}
use Rattle.page_table.specs.Lines.{FitsAt}
use Rattle.page_table.proofs.uses.PageUse.first_line.Given as goal

abbrev pub invariant-loop-line : goal.invariant-loop-line
invariant-loop-line l = (line : ℕ) → line < l.line → FitsAt l.self l.page l.sought l.from line → ⊥
