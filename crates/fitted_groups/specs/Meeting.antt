-- Lines of groups on the pages of an image: whose each page is behind them, and which lines fit the pages that they meet.
use Rattle.std.specs.Prelude.{ℕ, zero, suc, ◌-◌, ◌==◌, ◌&&◌, ◌≤◌, ◌<◌, ◌≡◌, Bool, if◌then◌else◌, List, [], ◌∷◌, slice_get, Option, Some, None}
use Rattle.std.specs.List.{flat_map}
use Rattle.rdb_outside.specs.Disk.{Image}
use Rattle.rdb_page.specs.Page.{IsUnused, class_at, lines_of}
use Rattle.area_files.specs.Areas.{IsDataPage, space_page_of}
use Rattle.space_pages.specs.Space.{owner_of}
use Rattle.aij_journal.specs.declared.part.GroupLine.{GroupLine}
use Rattle.aij_journal.specs.Part.{IsAllowedLine}
use Rattle.journal_scan.specs.declared.group.Group.{Group}
use Rattle.line_versions.specs.Lines.{storage_area}
use Rattle.stable_lines.specs.Slots.{area_file, IsAreaFile, owner_at}
use Rattle.line_moves.specs.declared.places.Place.{Place}
use Rattle.line_moves.specs.Changes.{IsPlaceOf}
use Rattle.laid_groups.specs.Forward.{Forward}

-- ---- the lines of groups

-- one behind another
abbrev pub lines_among : List Group → List GroupLine
lines_among groups = flat_map (λ g. g.lines) groups

-- whether the line lies on this page of this area file
abbrev pub is_there : ℕ → ℕ → GroupLine → Bool
is_there file number l = (storage_area l.key.area == file) && (l.key.page == number)

-- the first of the lines that does
abbrev pub first_there : ℕ → ℕ → List GroupLine → Option GroupLine
first_there file number [] = None
first_there file number (l ∷ ls) = if is_there file number l then Some l else first_there file number ls

-- ---- whose pages are

abbrev pub page_in : Image → ℕ → ℕ → List ℕ
page_in image file number = image (area_file file) (number - 1)

-- the logical area that the space page says of the page
abbrev pub entry_in : Image → ℕ → ℕ → ℕ
entry_in image file number = owner_of number (image (area_file file) (space_page_of number - 1))

-- whose a page is that has this owner, or none, behind a first line that is laid on it
abbrev pub owner_met : ℕ → Option GroupLine → ℕ → ℕ
owner_met zero None entry = entry
owner_met zero (Some l) entry = l.key.area
owner_met (suc owner) first entry = suc owner

abbrev pub class_met : ℕ → Option GroupLine → ℕ → ℕ
class_met zero None class = class
class_met zero (Some l) class = l.class
class_met (suc owner) first class = class

-- The owner of a page behind these lines, and its class: a page that is used keeps them; one that was never used has those of the first line that is laid on it.
abbrev pub owner_over : Image → List GroupLine → ℕ → ℕ → ℕ
owner_over image lines file number = owner_met (owner_at (page_in image file number)) (first_there file number lines) (entry_in image file number)

abbrev pub class_over : Image → List GroupLine → ℕ → ℕ → ℕ
class_over image lines file number = class_met (owner_at (page_in image file number)) (first_there file number lines) (class_at (page_in image file number))

-- behind the lines of these groups
abbrev pub owner_behind : Image → List Group → ℕ → ℕ → ℕ
owner_behind image groups file number = owner_over image (lines_among groups) file number

abbrev pub class_behind : Image → List Group → ℕ → ℕ → ℕ
class_behind image groups file number = class_over image (lines_among groups) file number

-- ---- which lines fit

-- A line, one of these, fits the page that it meets: a data page within the limit, of the line's area and class, with a place of its number.
pub record FitsPage (image : Image) (pages : ℕ) (lines : List GroupLine) (l : GroupLine) : Type 0 where
  pub place : Place
  pub names : IsPlaceOf l.key place
  pub within : l.key.page ≤ pages
  pub line : l.key.line < lines_of l.class
  pub owner : owner_over image lines place.file place.page ≡ l.key.area
  pub class : class_over image lines place.file place.page ≡ l.class
  pub allowed : IsAllowedLine l

-- each of them does
abbrev pub FitOver : Image → ℕ → List GroupLine → Type 0
FitOver image pages lines = (i : ℕ) (l : GroupLine) → slice_get lines i ≡ Some l → FitsPage image pages lines l

-- each line of the groups does
abbrev pub FitPages : Image → ℕ → List Group → Type 0
FitPages image pages groups = FitOver image pages (lines_among groups)

-- ---- whose pages are in the end

-- the page is this line's in the end
abbrev pub IsOfLine : Forward → ℕ → ℕ → GroupLine → Type 0
IsOfLine forward file number l = (forward.owners file number ≡ l.key.area) × (forward.sizes file number ≡ l.class)

-- Each page that was never used is in the end that of the first line that is laid on it.
abbrev pub TakesFirst : Image → Forward → List Group → Type 0
TakesFirst image forward groups = (file number : ℕ) (l : GroupLine) → IsAreaFile file → IsDataPage number → IsUnused (page_in image file number) → first_there file number (lines_among groups) ≡ Some l → IsOfLine forward file number l
