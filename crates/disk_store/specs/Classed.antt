-- Lines whose pages have the classes of their areas, by the tables of a store.
use Rattle.std.specs.Prelude.{ℕ, ◌≡◌, List, Some}
use Rattle.rdb_types.specs.declared.keys.Dbkey.{Dbkey}
use Rattle.line_view.specs.Knowledge.{Lines, line_in}
use Rattle.member_rooms.specs.page_table.Pages.{class_in}
use Rattle.disk_store.specs.declared.held.Tables.{Tables}
use Rattle.disk_store.specs.Shown.{pages_of}
use Rattle.disk_store.specs.Sound.{IsUsedIn}

-- The line was used, and its page has the class of its area.
pub record LiesClassed (tables : Tables) (classes : ℕ → ℕ) (key : Dbkey) : Type 0 where
  pub file : ℕ
  pub used : IsUsedIn tables file key
  pub class : class_in (pages_of tables file) key.page ≡ classes key.area

-- each line of the map
abbrev pub LieClassed : Tables → (ℕ → ℕ) → Lines → Type 0
LieClassed tables classes lines = (key : Dbkey) (image : List ℕ) → line_in key lines ≡ Some image → LiesClassed tables classes key
