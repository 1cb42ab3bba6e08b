-- Rooms: lines on which a new one may be put.
use Rattle.std.specs.Prelude.{◌≡◌, ◌≢◌, ◌≤◌, ◌⊎◌, ℕ, true, false, Option, Some, None}
use Rattle.std.specs.declared.cmp.Ordering.TheVariants.{Less}
use Rattle.rdb_outside.specs.rdb_types.declared.keys.Dbkey.{Dbkey}
use Rattle.rdb_outside.specs.rdb_types.Order.{dbkey_order}
use Rattle.area_files.specs.rdb_page.Page.{IsOwner}
use Rattle.area_files.specs.Areas.{IsSpacePage}
use Rattle.line_view.specs.Knowledge.{line_in}
use Rattle.line_store.specs.Shelves.{Space, Shelf, seen_by, Elapses}

abbrev pub IsBehind : Option Dbkey → Dbkey → Type 0
IsBehind None key = Unit {0}
IsBehind (Some from) key = dbkey_order from key ≡ Less

-- the first line of a page that isn't taken, and may hold lines
pub record IsFresh (space : Space) (file : ℕ) (key : Dbkey) : Type 0 where
  pub first : 1 ≤ key.page
  pub within : key.page ≤ space.limits.pages
  pub plain : IsSpacePage key.page → ⊥
  pub free : space.taken file key.page ≡ false
  pub line : key.line ≡ 0

-- a line of a page that is taken, behind another
pub record IsNext (space : Space) (file : ℕ) (from : Option Dbkey) (key : Dbkey) : Type 0 where
  pub taken : space.taken file key.page ≡ true
  pub behind : IsBehind from key

-- A line of the area without a current image, as s sees it.
pub record IsRoom (h : Shelf) (s area : ℕ) (from : Option Dbkey) (key : Dbkey) : Type 0 where
  pub area_is : key.area ≡ area
  pub file : ℕ
  pub lies : IsOwner file area
  pub stands : IsNext h.space file from key ⊎ IsFresh h.space file key
  pub free : line_in key (seen_by s h) ≡ None

abbrev pub first_line : ℕ → ℕ → Dbkey
first_line area page = record { area = area; page = page; line = 0 }

-- Each page of the area's file, up to the limit, is a space page, is taken, or has a line.
pub record IsFull (h : Shelf) (s area limit : ℕ) : Type 0 where
  pub limit_is : limit ≡ h.space.limits.pages
  pub file : ℕ
  pub lies : IsOwner file area
  pub all : (page : ℕ) → 1 ≤ page → page ≤ limit → IsSpacePage page ⊎ ((h.space.taken file page ≡ true) ⊎ (line_in (first_line area page) (seen_by s h) ≢ None))

-- The page of the line is taken, and other pages are as they were.
pub record TakesPage (key : Dbkey) (file : ℕ) (old new : Space) : Type 0 where
  pub here : new.taken file key.page ≡ true
  pub others : (f p : ℕ) → (f ≡ file → p ≢ key.page) → new.taken f p ≡ old.taken f p
  pub limits : new.limits ≡ old.limits
  pub snaps : new.snaps ≡ old.snaps
  pub slots : new.slots ≡ old.slots

pub record Takes (key : Dbkey) (old new : Shelf) : Type 0 where
  pub file : ℕ
  pub lies : IsOwner file key.area
  pub page : TakesPage key file old.space new.space
  pub now : new.now ≡ old.now
  pub seat : (t : ℕ) → new.seat t ≡ old.seat t
  pub steps : (t : ℕ) → new.steps t ≡ old.steps t
  pub later : Elapses old.clock new.clock

-- the page of the line was taken before
pub record IsTaken (key : Dbkey) (space : Space) : Type 0 where
  pub file : ℕ
  pub lies : IsOwner file key.area
  pub taken : space.taken file key.page ≡ true
