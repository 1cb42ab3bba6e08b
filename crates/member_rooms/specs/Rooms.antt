-- Rooms beside what a transaction wrote.
use Rattle.std.specs.Prelude.{ℕ, ◌≡◌, ◌⊎◌, List, Option, Some, None}
use Rattle.std.specs.FinMap.Entries.{find}
use Rattle.rdb_types.specs.declared.keys.Dbkey.{Dbkey}
use Rattle.rdb_types.specs.declared.keys.Line.{Line}
use Rattle.rdb_types.specs.Order.{dbkey_order}
use Rattle.line_store.specs.Rooms.{first_line}
use Rattle.line_versions.specs.Lines.{shown}
use Rattle.committed_tables.specs.page_table.declared.uses.Sought.TheVariants.{Free}
use Rattle.committed_tables.specs.page_table.Pages.{Pages}
use Rattle.committed_tables.specs.page_table.Scans.{Fits, IsNew}

-- the image that the transaction wrote, if it wrote the line
abbrev pub image_of : Option Line → Option (List ℕ)
image_of None = None
image_of (Some line) = shown line

abbrev pub own_image : List (Dbkey × Line) → Dbkey → Option (List ℕ)
own_image lines key = image_of (find dbkey_order key lines)

-- the first line of a page that nobody owns
pub record IsOnNew (pages : Pages) (area : ℕ) (key : Dbkey) : Type 0 where
  pub area_is : key.area ≡ area
  pub line : key.line ≡ 0
  pub page : IsNew pages key.page

-- A line without an image, on a page of the area and class behind another line, or the first one of a new page; the transaction wrote no image there.
pub record IsRoomBeside (pages : Pages) (lines : List (Dbkey × Line)) (area class : ℕ) (from : Option Dbkey) (key : Dbkey) : Type 0 where
  pub stands : Fits pages (Free class) area from key ⊎ IsOnNew pages area key
  pub free : own_image lines key ≡ None

-- On the first line of each new page the transaction wrote an image.
abbrev pub HasNoPage : Pages → List (Dbkey × Line) → ℕ → Type 0
HasNoPage pages lines area = (page : ℕ) → IsNew pages page → (image : List ℕ) × (own_image lines (first_line area page) ≡ Some image)
