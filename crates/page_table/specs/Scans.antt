-- What is found in a table of pages.
use Rattle.std.specs.Prelude.{ℕ, ◌≤◌, ◌≡◌, ◌⊎◌, true, false, length, Option}
use Rattle.std.specs.declared.cmp.Ordering.TheVariants.{Less}
use Rattle.rdb_types.specs.declared.keys.Dbkey.{Dbkey}
use Rattle.rdb_types.specs.Order.{dbkey_order}
use Rattle.area_files.specs.Areas.{IsSpacePage}
use Rattle.line_store.specs.Rooms.{IsBehind}
use Rattle.page_table.specs.declared.uses.PageUse.{PageUse}
use Rattle.page_table.specs.declared.uses.Sought.{Sought}
use Rattle.page_table.specs.declared.uses.Sought.TheVariants.{Used, Ever, Free}
use Rattle.page_table.specs.Pages.{Pages, use_of, owner_in, has_image, was_used, IsLineOf}

-- ---- lines

abbrev pub IsSought : Sought → PageUse → ℕ → Type 0
IsSought Used u line = has_image u line ≡ true
IsSought Ever u line = was_used u line ≡ true
IsSought (Free class) u line = (u.class ≡ class) × (has_image u line ≡ false)

-- a line of the area, behind another, that is sought
pub record Fits (pages : Pages) (sought : Sought) (area : ℕ) (from : Option Dbkey) (key : Dbkey) : Type 0 where
  pub area_is : key.area ≡ area
  pub is_line : IsLineOf pages key
  pub behind : IsBehind from key
  pub is_sought : IsSought sought (use_of pages key.page) key.line

-- such a line, and no such line lies before it
pub record IsFirst (pages : Pages) (sought : Sought) (area : ℕ) (from : Option Dbkey) (key : Dbkey) : Type 0 where
  pub fits : Fits pages sought area from key
  pub least : (other : Dbkey) → Fits pages sought area from other → dbkey_order other key ≡ Less → ⊥

abbrev pub HasNone : Pages → Sought → ℕ → Option Dbkey → Type 0
HasNone pages sought area from = (key : Dbkey) → Fits pages sought area from key → ⊥

-- ---- pages

-- a page that nobody owns, and that may hold lines
pub record IsNew (pages : Pages) (page : ℕ) : Type 0 where
  pub first : 1 ≤ page
  pub within : page ≤ length pages
  pub plain : IsSpacePage page → ⊥
  pub free : owner_in pages page ≡ 0

pub record IsFirstNew (pages : Pages) (page : ℕ) : Type 0 where
  pub new : IsNew pages page
  pub least : (other : ℕ) → IsNew pages other → page ≤ other

abbrev pub HasNoNew : Pages → Type 0
HasNoNew pages = (page : ℕ) → IsNew pages page → ⊥

-- ---- rooms

-- The first line of the least new page, where no page of the area has a free line.
pub record IsOnNew (pages : Pages) (area class : ℕ) (from : Option Dbkey) (key : Dbkey) : Type 0 where
  pub area_is : key.area ≡ area
  pub line : key.line ≡ 0
  pub page : IsFirstNew pages key.page
  pub none : HasNone pages (Free class) area from

abbrev pub IsNextRoom : Pages → (area class : ℕ) → Option Dbkey → Dbkey → Type 0
IsNextRoom pages area class from key = IsFirst pages (Free class) area from key ⊎ IsOnNew pages area class from key

pub record HasNoRoom (pages : Pages) (area class : ℕ) (from : Option Dbkey) : Type 0 where
  pub none : HasNone pages (Free class) area from
  pub no_new : HasNoNew pages
