-- What calls of a store make of its tables of pages: they only grow.
use Rattle.std.specs.Prelude.{ℕ, ◌≡◌}
use Rattle.rdb_types.specs.declared.keys.Dbkey.{Dbkey}
use Rattle.rdb_page.specs.Page.{IsOwner}
use Rattle.member_rooms.specs.page_table.Pages.{IsWithin, class_in, owner_in}
use Rattle.disk_store.specs.declared.held.Tables.{Tables}
use Rattle.disk_store.specs.Shown.{pages_of}
use Rattle.disk_store.specs.Sound.{IsUsedIn}

-- the page of an area file is this area's
pub record IsOwned (tables : Tables) (file page area : ℕ) : Type 0 where
  pub within : IsWithin (pages_of tables file) page
  pub owner : owner_in (pages_of tables file) page ≡ area
  pub lies : IsOwner file area

-- A page that is an area's stays the area's, of its class; a line that was used stays one that was.
pub record Grow (old new : Tables) : Type 0 where
  pub owned : (file page area : ℕ) → IsOwned old file page area → IsOwned new file page area
  pub class : (file page area : ℕ) → IsOwned old file page area → class_in (pages_of new file) page ≡ class_in (pages_of old file) page
  pub used : (file : ℕ) (key : Dbkey) → IsUsedIn old file key → IsUsedIn new file key
