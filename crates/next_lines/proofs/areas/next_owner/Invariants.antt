use Rattle.std.proofs.Common.{ℕ, ◌≤◌, ◌<◌, IfSome}
use Rattle.page_table.specs.Pages.{owner_in}
use Rattle.next_lines.specs.Areas.{Reaches}
use Rattle.next_lines.proofs.areas.next_owner.Given as goal

abbrev pub invariant-loop-page : goal.invariant-loop-page
invariant-loop-page l = record {
  behind : IfSome l.least (λ a. l.area < a);
  reaches : (page : ℕ) → 1 ≤ page → page < l.page → Reaches l.area l.least (owner_in l.table page);
}
