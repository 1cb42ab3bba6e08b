use Rattle.std.proofs.Common.{◌≡◌, ◌<◌, ℕ, List, Some}
use Rattle.line_store.specs.Rooms.{first_line}
use Rattle.committed_tables.specs.page_table.Scans.{IsNew}
use Rattle.member_rooms.specs.Rooms.{own_image}
use Rattle.member_rooms.proofs.rooms.new_line_behind.Given as goal

abbrev pub invariant-loop-page : goal.invariant-loop-page
invariant-loop-page l = (page : ℕ) → l.behind < page → page < l.page → IsNew l.table page → (image : List ℕ) × (own_image l.own.lines (first_line l.area page) ≡ Some image)
