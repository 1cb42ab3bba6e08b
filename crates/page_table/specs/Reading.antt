-- What a table says of an image.
use Rattle.std.specs.Prelude.{ℕ, ◌-◌, ◌≤◌, ◌≡◌, ◌⊎◌, List, length}
use Rattle.rdb_types.specs.declared.keys.Line.{Line}
use Rattle.rdb_page.specs.Page.{class_at}
use Rattle.rdb_page.specs.Whole.{IsPageOf}
use Rattle.rdb_outside.specs.Disk.{Image}
use Rattle.area_files.specs.Areas.{IsPage, IsDataPage, IsSpacePage}
use Rattle.space_pages.specs.Space.{IsSpace}
use Rattle.database_opening.specs.stable_lines.Slots.{area_file, owner_at, line_on}
use Rattle.database_opening.specs.Owners.{owner_said}
use Rattle.page_table.specs.declared.uses.PageUse.{PageUse}
use Rattle.page_table.specs.Pages.{Pages, nobodys, use_of, state_in}

-- the line of a number on a page, for the logical area that the page names
abbrev pub line_of : (page : ℕ) → List ℕ → ℕ → Line
line_of page bytes line = line_on (record { area = owner_at bytes; page = page; line = line }) bytes

-- the bytes of the page of this number say this of it
pub record SaysUse (page : ℕ) (bytes : List ℕ) (u : PageUse) : Type 0 where
  pub owner : u.owner ≡ owner_at bytes
  pub class : u.class ≡ class_at bytes
  pub states : (line : ℕ) → state_in u line ≡ (line_of page bytes line).state

-- Nobody owns the page by its space page, or its bytes say this of it.
abbrev pub IsEntryOf : (owner page : ℕ) → List ℕ → PageUse → Type 0
IsEntryOf owner page bytes u = ((owner ≡ 0) × (u ≡ nobodys)) ⊎ ((1 ≤ owner) × SaysUse page bytes u)

-- the table of an area file in this image
pub record IsTableOf (image : Image) (file pages : ℕ) (table : Pages) : Type 0 where
  pub long : length table ≡ pages
  pub page : (page : ℕ) → IsDataPage page → page ≤ pages → IsEntryOf (owner_said image file page) page (image (area_file file) (page - 1)) (use_of table page)
  pub space : (page : ℕ) → IsPage page → IsSpacePage page → page ≤ pages → use_of table page ≡ nobodys

-- each page of the area file is one
pub record ArePages (image : Image) (file : ℕ) : Type 0 where
  pub page : (page : ℕ) → IsDataPage page → IsPageOf file page (image (area_file file) (page - 1))
  pub space : (page : ℕ) → IsPage page → IsSpacePage page → IsSpace (image (area_file file) (page - 1)) page
