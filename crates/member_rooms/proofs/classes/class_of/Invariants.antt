use Rattle.std.proofs.Common.{◌≡◌, ◌<◌, ℕ}
use Rattle.committed_tables.specs.page_table.Pages.{owner_in, IsWithin}
use Rattle.member_rooms.proofs.classes.class_of.Given as goal

abbrev pub invariant-loop-page : goal.invariant-loop-page
invariant-loop-page l = (page : ℕ) → page < l.page → IsWithin l.table page → owner_in l.table page ≡ l.area → ⊥
