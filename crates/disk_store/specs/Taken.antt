-- A page that is taken in the table of an area file.
use Rattle.std.specs.Prelude.{ℕ, ◌≡◌}
use Rattle.member_rooms.specs.page_table.Pages.{Puts, empty_of}
use Rattle.disk_store.specs.declared.held.Tables.{Tables}
use Rattle.disk_store.specs.Shown.{pages_of}

-- The page is the area's now, without a line, and no other page is another.
pub record TakesIn (file page area class : ℕ) (old new : Tables) : Type 0 where
  pub here : Puts page (empty_of area class) (pages_of old file) (pages_of new file)
  pub others : (other : ℕ) → (other ≡ file → ⊥) → pages_of new other ≡ pages_of old other
