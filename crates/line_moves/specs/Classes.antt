-- The classes of the pages of logical areas, and their owners.
use Rattle.std.specs.Prelude.{ℕ, ◌-◌, ◌≤◌, ◌≡◌, List, slice_get, Some}
use Rattle.rdb_types.specs.declared.keys.Dbkey.{Dbkey}
use Rattle.rdb_types.specs.declared.keys.Line.{Line}
use Rattle.line_store.specs.rdb_page.Page.{class_at}
use Rattle.line_store.specs.rdb_outside.Disk.{Image}
use Rattle.line_store.specs.area_files.Areas.{IsDataPage}
use Rattle.stable_lines.specs.Slots.{area_file, owner_at, IsAreaFile}
use Rattle.stable_lines.specs.Facts.{PendingContents}
use Rattle.line_moves.specs.declared.places.Place.{Place}
use Rattle.line_moves.specs.Changes.{IsPlaceOf, IsForArea}
use Rattle.line_moves.specs.Lines.{ChangedLines}

-- A page that a logical area owns has that area's class.
abbrev pub HasItsClass : (ℕ → ℕ) → List ℕ → Type 0
HasItsClass classes page = 1 ≤ owner_at page → class_at page ≡ classes (owner_at page)

-- Each page that a logical area owns has that area's class, in each content that it may have.
abbrev pub HaveTheirClasses : (ℕ → ℕ) → PendingContents → Type 0
HaveTheirClasses classes P = (file number : ℕ) (page : List ℕ) → IsAreaFile file → IsDataPage number → P (area_file file) (number - 1) page → HasItsClass classes page

-- Each page of the image that a logical area owns has that area's class.
abbrev pub IsClassed : (ℕ → ℕ) → Image → Type 0
IsClassed classes image = (file number : ℕ) → IsAreaFile file → IsDataPage number → HasItsClass classes (image (area_file file) (number - 1))

-- ---- owners

-- Each of the lines whose place this is is of the area.
abbrev pub LieForArea : ChangedLines → Place → ℕ → Type 0
LieForArea lines place area = (i : ℕ) (line : Dbkey × Line) → slice_get lines i ≡ Some line → IsPlaceOf line.0 place → line.0.area ≡ area

-- A page that no other area owned is still no other's.
abbrev pub KeepsOwners : PendingContents → PendingContents → Place → ℕ → Type 0
KeepsOwners old new place area = IsForArea old place area → IsForArea new place area
