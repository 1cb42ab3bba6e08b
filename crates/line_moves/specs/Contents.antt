-- What the pending facts ask of one content of a page.
use Rattle.std.specs.Prelude.{ℕ, ◌-◌, ◌≤◌, ◌<◌, ◌≡◌, ◌≢◌, ◌⊎◌, List, slice_get, Some}
use Rattle.rdb_types.specs.declared.keys.Dbkey.{Dbkey}
use Rattle.line_store.specs.rdb_page.Page.{class_at}
use Rattle.line_store.specs.area_files.Areas.{space_page_of}
use Rattle.stable_lines.specs.space_pages.Space.{owner_of}
use Rattle.stable_lines.specs.aij_journal.declared.part.GroupLine.{GroupLine}
use Rattle.line_store.specs.line_view.Knowledge.{line_in}
use Rattle.stable_lines.specs.Slots.{area_file, file_of, slot_of, owner_at, line_on}
use Rattle.line_store.specs.rdb_page.Whole.{IsPageOf}
use Rattle.stable_lines.specs.Kept.{FitsClass}
use Rattle.stable_lines.specs.Progress.{Flight, Progress, lines_with}
use Rattle.stable_lines.specs.Facts.{PendingContents, IsCommitted, IsChanged, HasLanded}

-- a line of the page of this number in this area file
pub record IsOn (file number : ℕ) (key : Dbkey) : Type 0 where
  pub in_file : file_of key ≡ area_file file
  pub in_slot : slot_of key ≡ number - 1

-- The line is as committed, or one that is sure to be put back.
abbrev pub IsSure : PendingContents → Progress → Dbkey → List ℕ → Type 0
IsSure P now key x = IsCommitted P now key (line_on key x) ⊎ IsChanged P now key (line_on key x)

-- the lines of the group in flight stand on it
pub record HasFlight (now : Progress) (f : Flight) (file number : ℕ) (x : List ℕ) : Type 0 where
  pub landed : (i : ℕ) (line : GroupLine) → slice_get f.group.lines i ≡ Some line → IsOn file number line.key → HasLanded f.group line (line_on line.key x)
  pub class : (key : Dbkey) (bytes : List ℕ) → line_in key (lines_with now f) ≡ Some bytes → IsOn file number key → FitsClass x (f.classes key.area) bytes

pub record IsSurePage (P : PendingContents) (now : Progress) (file number : ℕ) (x : List ℕ) : Type 0 where
  pub page : IsPageOf file number x
  pub within : number ≤ now.limits.pages
  pub line : (key : Dbkey) → IsOn file number key → IsSure P now key x
  pub below : (key : Dbkey) → IsOn file number key → (line_on key x).tsn.number < now.next_tsn
  pub owner : (y : List ℕ) → 1 ≤ owner_at x → P (area_file file) (space_page_of number - 1) y → owner_of number y ≡ owner_at x
  pub class : (key : Dbkey) (bytes : List ℕ) → line_in key now.lines ≡ Some bytes → IsOn file number key → FitsClass x (now.classes key.area) bytes
  pub flight : (f : Flight) → now.flight ≡ Some f → HasFlight now f file number x

-- the page with another line at one key
pub record PutsLine (file number : ℕ) (key : Dbkey) (old new : List ℕ) : Type 0 where
  pub page : IsPageOf file number new
  pub same_owner : owner_at new ≡ owner_at old
  pub same_class : class_at new ≡ class_at old
  pub others : (k : Dbkey) → IsOn file number k → k ≢ key → line_on k new ≡ line_on k old

-- no line of the group in flight has this key
abbrev pub IsFree : Progress → Dbkey → Type 0
IsFree now key = (f : Flight) → now.flight ≡ Some f → (i : ℕ) (line : GroupLine) → slice_get f.group.lines i ≡ Some line → line.key ≢ key
