-- When a line may be put on its page, a page be given to a logical area, a commit slot be written; and what a call makes of the lines.
use Rattle.std.specs.Prelude.{ℕ, ◌-◌, ◌≤◌, ◌<◌, ◌≡◌, ◌≢◌, ◌⊎◌, true, List, length, Some}
use Rattle.rdb_types.specs.declared.keys.Dbkey.{Dbkey}
use Rattle.rdb_types.specs.declared.keys.Line.{Line}
use Rattle.rdb_types.specs.declared.keys.Tsn.{Tsn}
use Rattle.line_store.specs.area_files.Areas.{IsDataPage, space_page_of}
use Rattle.line_store.specs.rdb_outside.Disk.{Image}
use Rattle.stable_lines.specs.space_pages.Space.{owner_of}
use Rattle.line_store.specs.rdb_page.Lines.{IsAllowedLine}
use Rattle.line_store.specs.rdb_page.Page.{IsOwner, class_at}
use Rattle.stable_lines.specs.Slots.{area_file, owner_at, has_place, line_at}
use Rattle.stable_lines.specs.Journal.{next_slot}
use Rattle.stable_lines.specs.Progress.{Open, Flight, Progress}
use Rattle.stable_lines.specs.Facts.{PendingContents, IsCommitted, IsChanged, Facts}
use Rattle.line_moves.specs.declared.places.Place.{Place}
use Rattle.line_moves.specs.Contents.{IsFree}

-- the place of the line: the file of its logical area, and its page
pub record IsPlaceOf (key : Dbkey) (place : Place) : Type 0 where
  pub owner : IsOwner place.file key.area
  pub page : place.page ≡ key.page
  pub is_data : IsDataPage place.page

-- the page has a place for the line, and the line isn't too long for it
pub record Fits (key : Dbkey) (line : Line) (page : List ℕ) : Type 0 where
  pub placed : has_place key page ≡ true
  pub allowed : IsAllowedLine (class_at page) line

-- The line is as committed, or one that is sure to be put back; no group in flight has its key; its page isn't past the limit.
pub record MayPut (P : PendingContents) (now : Progress) (key : Dbkey) (line : Line) : Type 0 where
  pub sure : IsCommitted P now key line ⊎ IsChanged P now key line
  pub below : line.tsn.number < now.next_tsn
  pub free : IsFree now key
  pub within : key.page ≤ now.limits.pages

-- each content that the page may have has no owner, or this one
abbrev pub IsForArea : PendingContents → Place → ℕ → Type 0
IsForArea P place area = (x : List ℕ) → P (area_file place.file) (place.page - 1) x → 1 ≤ owner_at x → owner_at x ≡ area

-- each content that its space page may have says that the area owns the page
abbrev pub IsEntered : PendingContents → Place → ℕ → Type 0
IsEntered P place area = (z : List ℕ) → P (area_file place.file) (space_page_of place.page - 1) z → owner_of place.page z ≡ area

-- The entry in this slot is a standing one of the member's open transaction, which isn't in flight; and the database has so many pages.
pub record IsUndoing (P : PendingContents) (now : Progress) (member : ℕ) (o : Open) (index pages : ℕ) : Type 0 where
  pub facts : Facts P now
  pub is_open : now.going member ≡ Some o
  pub first : 1 ≤ index
  pub last : index ≤ length o.entries
  pub limit : pages ≡ now.limits.pages
  pub not_flying : (f : Flight) → now.flight ≡ Some f → f.member ≢ member

-- This is the group in flight, and where it begins.
pub record IsCommitOf (now : Progress) (f : Flight) (slot number : ℕ) (tsn : Tsn) (lines : ℕ) : Type 0 where
  pub flies : now.flight ≡ Some f
  pub in_slot : slot ≡ next_slot now.journal
  pub numbered : number ≡ f.group.number
  pub its : tsn ≡ f.group.tsn
  pub count : lines ≡ length f.group.lines

-- Each line is as it was, or it is the one of this key, and is this now.
abbrev pub PutsOne : Dbkey → Line → Image → Image → Type 0
PutsOne key value old new = (other : Dbkey) → (line_at new other ≡ line_at old other) ⊎ ((other ≡ key) × (line_at new other ≡ value))

-- No line is another than before.
abbrev pub KeepsLines : Image → Image → Type 0
KeepsLines old new = (key : Dbkey) → line_at new key ≡ line_at old key
