use Rattle.std.proofs.Common.{◌≡◌, ◌++◌}
use Rattle.rmu_texts.specs.Page.{lines_to}
use Rattle.rmu_texts.proofs.page.page_text.Given as goal

abbrev pub invariant-loop-line : goal.invariant-loop-line
invariant-loop-line l = l.out ≡ l.initial.out ++ lines_to l.page l.line
