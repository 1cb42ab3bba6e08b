-- The lines that a transaction changed, in the order of their keys, and their pages.
use Rattle.std.specs.Prelude.{ℕ, ◌-◌, ◌≤◌, ◌<◌, ◌≡◌, ◌≢◌, ◌⊎◌, List, slice_get, Some}
use Rattle.rdb_types.specs.declared.keys.Dbkey.{Dbkey}
use Rattle.rdb_types.specs.declared.keys.Line.{Line}
use Rattle.line_store.specs.rdb_page.declared.head.Head.{Head}
use Rattle.line_store.specs.rdb_page.Lines.{IsLine, never}
use Rattle.line_store.specs.rdb_page.Page.{IsHead, IsUnused, class_at, lines_of}
use Rattle.line_store.specs.rdb_page.Whole.{IsPageOf}
use Rattle.line_store.specs.rdb_outside.Disk.{Image, View, Pending}
use Rattle.stable_lines.specs.Slots.{area_file, owner_at, line_on, line_at}
use Rattle.stable_lines.specs.Progress.{Progress}
use Rattle.stable_lines.specs.Facts.{PendingContents}
use Rattle.line_moves.specs.declared.places.Place.{Place}
use Rattle.line_moves.specs.Contents.{IsOn}
use Rattle.line_moves.specs.Changes.{Fits, MayPut, IsEntered}

abbrev pub ChangedLines : Type 0
ChangedLines = List (Dbkey × Line)

-- no two have one key
abbrev pub AreDistinct : ChangedLines → Type 0
AreDistinct lines = (i k : ℕ) (a b : Dbkey × Line) → slice_get lines i ≡ Some a → slice_get lines k ≡ Some b → a.0 ≡ b.0 → i ≡ k

-- each of them may be put on its page
abbrev pub MayPutAll : PendingContents → Progress → ChangedLines → Type 0
MayPutAll P now lines = (i : ℕ) (line : Dbkey × Line) → slice_get lines i ≡ Some line → MayPut P now line.0 line.1

-- so many of them stand on their pages
abbrev pub ArePut : Image → ChangedLines → ℕ → Type 0
ArePut image lines n = (i : ℕ) (line : Dbkey × Line) → i < n → slice_get lines i ≡ Some line → line_at image line.0 ≡ line.1

-- Of a page that was never used each content of its space page says that the area of the first line owns it.
abbrev pub MayBegin : View → ChangedLines → ℕ → Place → Type 0
MayBegin v lines from place = IsUnused (v.content (area_file place.file) (place.page - 1)) → (line : Dbkey × Line) → slice_get lines from ≡ Some line → IsEntered (Pending v) place line.0.area

-- none of the lines from one place up to another has this key
abbrev pub IsNoKeyOf : ChangedLines → ℕ → ℕ → Dbkey → Type 0
IsNoKeyOf lines from next key = (i : ℕ) (line : Dbkey × Line) → from ≤ i → i < next → slice_get lines i ≡ Some line → line.0 ≢ key

-- the page with the lines from one place up to another, which all stand on it
pub record Fills (lines : ChangedLines) (from next : ℕ) (place : Place) (old new : List ℕ) : Type 0 where
  pub page : IsPageOf place.file place.page new
  pub same_owner : owner_at new ≡ owner_at old
  pub same_class : class_at new ≡ class_at old
  pub on : (i : ℕ) (line : Dbkey × Line) → from ≤ i → i < next → slice_get lines i ≡ Some line → IsOn place.file place.page line.0
  pub stand : (i : ℕ) (line : Dbkey × Line) → from ≤ i → i < next → slice_get lines i ≡ Some line → line_on line.0 new ≡ line.1
  pub others : (key : Dbkey) → IsOn place.file place.page key → IsNoKeyOf lines from next key → line_on key new ≡ line_on key old

-- The lines from one place on that stand on one page with the first of them all have their place there.
abbrev pub AllFit : ChangedLines → ℕ → List ℕ → Type 0
AllFit lines from page = (i : ℕ) (first line : Dbkey × Line) → from ≤ i → slice_get lines from ≡ Some first → slice_get lines i ≡ Some line → line.0.area ≡ first.0.area → line.0.page ≡ first.0.page → Fits line.0 line.1 page

-- a page with this head, on which no line was used
pub record HasNoLines (page : List ℕ) (head : Head) : Type 0 where
  pub is : IsHead page head
  pub lines : (line : ℕ) → line < lines_of head.class → IsLine page head.class line never

-- a page that was never used gets a head, and any other is as it was
pub record IsStarted (place : Place) (owner class : ℕ) (old new : List ℕ) : Type 0 where
  pub unused : IsUnused old → HasNoLines new (record { page = place.page; owner = owner; class = class })
  pub used : (IsUnused old → ⊥) → new ≡ old
  pub either : IsUnused old ⊎ (new ≡ old)

-- They all have their place on the page as it is begun.
abbrev pub AllFitBegun : ChangedLines → ℕ → Place → ℕ → List ℕ → Type 0
AllFitBegun lines from place class old = (first : Dbkey × Line) (begun : List ℕ) → slice_get lines from ≡ Some first → IsStarted place first.0.area class old begun → AllFit lines from begun

-- one of the lines has this key, and is this
pub record HasLine (lines : ChangedLines) (key : Dbkey) (value : Line) : Type 0 where
  pub index : ℕ
  pub line : Dbkey × Line
  pub is : slice_get lines index ≡ Some line
  pub key_is : line.0 ≡ key
  pub value_is : line.1 ≡ value

-- Each line is as it was, or one of these.
abbrev pub PutsOnly : ChangedLines → Image → Image → Type 0
PutsOnly lines old new = (key : Dbkey) → (line_at new key ≡ line_at old key) ⊎ HasLine lines key (line_at new key)
