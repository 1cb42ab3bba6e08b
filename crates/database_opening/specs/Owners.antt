-- The owners of the pages of an area file, as its space pages say them.
use Rattle.std.specs.Prelude.{ℕ, ◌-◌, ◌≤◌, ◌≡◌, List, length, slice_index_or}
use Rattle.rdb_outside.specs.Disk.{Image}
use Rattle.area_files.specs.Areas.{IsDataPage, space_page_of}
use Rattle.space_pages.specs.Space.{owner_of}
use Rattle.line_opening.specs.stable_lines.Slots.{area_file}

-- the owner of a page by the space page that speaks of it
abbrev pub owner_said : Image → ℕ → ℕ → ℕ
owner_said image file page = owner_of page (image (area_file file) (space_page_of page - 1))

-- of each data page within the limit, in the place of its slot
pub record AreOwners (image : Image) (file pages : ℕ) (owners : List ℕ) : Type 0 where
  pub long : length owners ≡ pages
  pub each : (page : ℕ) → IsDataPage page → page ≤ pages → slice_index_or owners (page - 1) 0 ≡ owner_said image file page
