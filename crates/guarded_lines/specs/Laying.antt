-- A line that is laid on its page, behind a root that says that the database is unfinished.
use Rattle.std.specs.Prelude.{ℕ, ◌-◌, ◌<◌, ◌≡◌, ◌≢◌, ◌⊎◌, List}
use Rattle.rdb_types.specs.declared.file.FileId.{FileId}
use Rattle.rdb_types.specs.declared.file.FileKind.TheVariants.{Area}
use Rattle.rdb_types.specs.declared.keys.Dbkey.{Dbkey}
use Rattle.rdb_types.specs.declared.keys.Line.{Line}
use Rattle.rdb_outside.specs.Disk.{Image}
use Rattle.rdb_page.specs.Page.{IsUnused, class_at, lines_of}
use Rattle.rdb_page.specs.Whole.{IsPageOf}
use Rattle.area_files.specs.Areas.{IsDataPage, space_page_of}
use Rattle.space_pages.specs.Space.{IsSpace, IsBeside, owner_of}
use Rattle.stable_lines.specs.Slots.{area_file, file_of, slot_of, owner_at, line_on, line_at}
use Rattle.stable_lines.specs.Kept.{IsWellFormed}
use Rattle.line_moves.specs.declared.places.Place.{Place}
use Rattle.line_moves.specs.Contents.{IsOn}

-- the file of a storage area
abbrev pub IsArea : FileId → Type 0
IsArea file = file.kind ≡ Area

-- a page of this logical area, with lines of this class
pub record IsOfArea (area size : ℕ) (page : List ℕ) : Type 0 where
  pub owner : owner_at page ≡ area
  pub class : class_at page ≡ size

-- a page of the class has such a line, and the page was never used, or is one of the line's area and class
pub record HasRoom (key : Dbkey) (class : ℕ) (bytes : List ℕ) : Type 0 where
  pub line : key.line < lines_of class
  pub page : IsUnused bytes ⊎ IsOfArea key.area class bytes

-- the page of the line in the image
abbrev pub page_of : Image → Dbkey → List ℕ
page_of image key = image (file_of key) (slot_of key)

-- all slots but this are as they were
abbrev pub IsApart : FileId → ℕ → Image → Image → Type 0
IsApart file slot old new = (f : FileId) (i : ℕ) → (f ≡ file → i ≢ slot) → new f i ≡ old f i

-- The space page says that the area owns the page, and of the other pages what it said.
pub record SaysOwner (place : Place) (area : ℕ) (old new : List ℕ) : Type 0 where
  pub here : owner_of place.page new ≡ area
  pub beside : (other : ℕ) → IsBeside place.page other → owner_of other new ≡ owner_of other old
  pub space : IsSpace new (space_page_of place.page)

-- so it does in the image, and all else is as it was
pub record Enters (place : Place) (area : ℕ) (old new : Image) : Type 0 where
  pub says : SaysOwner place area (old (area_file place.file) (space_page_of place.page - 1)) (new (area_file place.file) (space_page_of place.page - 1))
  pub apart : IsApart (area_file place.file) (space_page_of place.page - 1) old new

-- The line stands on the page, with the others that were there.
pub record BearsLine (key : Dbkey) (place : Place) (class : ℕ) (value : Line) (old new : List ℕ) : Type 0 where
  pub page : IsPageOf place.file place.page new
  pub of_area : IsOfArea key.area class new
  pub here : line_on key new ≡ value
  pub others : (k : Dbkey) → IsOn place.file place.page k → k ≢ key → line_on k new ≡ line_on k old

-- so it does in the image, and all else is as it was
pub record PutsOn (key : Dbkey) (place : Place) (class : ℕ) (value : Line) (old new : Image) : Type 0 where
  pub bears : BearsLine key place class value (old (area_file place.file) (place.page - 1)) (new (area_file place.file) (place.page - 1))
  pub apart : IsApart (area_file place.file) (place.page - 1) old new

-- The space page says that the line's area owns its page, the line stands there, and all else is as it was.
pub record LaysOn (key : Dbkey) (place : Place) (class : ℕ) (value : Line) (old new : Image) : Type 0 where
  pub says : SaysOwner place key.area (old (area_file place.file) (space_page_of place.page - 1)) (new (area_file place.file) (space_page_of place.page - 1))
  pub bears : BearsLine key place class value (old (area_file place.file) (place.page - 1)) (new (area_file place.file) (place.page - 1))
  pub apart : (f : FileId) (i : ℕ) → (f ≡ area_file place.file → i ≢ space_page_of place.page - 1) → (f ≡ area_file place.file → i ≢ place.page - 1) → new f i ≡ old f i

-- the slot of the space page, saying so
abbrev pub IsEntrySlot : Image → Place → ℕ → FileId → ℕ → List ℕ → Type 0
IsEntrySlot old place area f i x = (f ≡ area_file place.file) × (i ≡ space_page_of place.page - 1) × SaysOwner place area (old (area_file place.file) (space_page_of place.page - 1)) x

-- the slot of the page, with the line
abbrev pub IsLineSlot : Image → Dbkey → Place → ℕ → Line → FileId → ℕ → List ℕ → Type 0
IsLineSlot old key place class value f i x = (f ≡ area_file place.file) × (i ≡ place.page - 1) × BearsLine key place class value (old (area_file place.file) (place.page - 1)) x

-- what laying the line may put into a slot
abbrev pub IsLaidSlot : Image → Dbkey → Place → ℕ → Line → FileId → ℕ → List ℕ → Type 0
IsLaidSlot old key place class value f i x = IsEntrySlot old place key.area f i x ⊎ IsLineSlot old key place class value f i x

-- The line stands in the image on a page of its area and class, each other line is as it was, and so is each other data page.
pub record Lays (pages : ℕ) (key : Dbkey) (class : ℕ) (value : Line) (old new : Image) : Type 0 where
  pub well_formed : IsWellFormed new pages
  pub stands : line_at new key ≡ value
  pub page : IsOfArea key.area class (page_of new key)
  pub others : (k : Dbkey) → k ≢ key → line_at new k ≡ line_at old k
  pub apart : (file number : ℕ) → IsDataPage number → (file_of key ≡ area_file file → slot_of key ≢ number - 1) → new (area_file file) (number - 1) ≡ old (area_file file) (number - 1)
