use Rattle.std.proofs.Common.{ℕ, ◌≤◌}
use Rattle.page_table.specs.Scans.{IsNew}
use Rattle.page_table.proofs.table.PageTable.new_page.Given as goal

abbrev pub invariant-loop-page : goal.invariant-loop-page
invariant-loop-page l = (other : ℕ) → IsNew l.self other → l.page ≤ other
