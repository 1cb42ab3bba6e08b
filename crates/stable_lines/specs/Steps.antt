-- What steps ask: of a group that takes off, of a space page that is written, of a journal that is begun anew.
use Rattle.std.specs.Prelude.{ℕ, ◌+◌, ◌-◌, ◌≤◌, ◌<◌, ◌≡◌, List, length, slice_get, Option, Some}
use Rattle.rdb_types.specs.declared.keys.Dbkey.{Dbkey}
use Rattle.journal_reading.specs.rdb_outside.Disk.{Image}
use Rattle.space_pages.specs.area_files.Areas.{IsPage, IsDataPage, space_page_of}
use Rattle.space_pages.specs.Space.{IsSpace, owner_of}
use Rattle.new_database.specs.aij_journal.declared.part.GroupLine.{GroupLine}
use Rattle.new_database.specs.aij_journal.declared.part.AijPart.{AijPart}
use Rattle.journal_reading.specs.journal_scan.Standing.{what_stands}
use Rattle.journal_reading.specs.journal_scan.Whole.{slots_of, IsWhole}
use Rattle.line_view.specs.Knowledge.{line_in}
use Rattle.new_database.specs.Maker.{aij_file}
use Rattle.stable_lines.specs.Slots.{area_file, ruj_file, file_of, slot_of, owner_at, line_at, named, IsMember, Undo}
use Rattle.stable_lines.specs.Journal.{next_number, next_slot}
use Rattle.stable_lines.specs.Kept.{FitsClass}
use Rattle.stable_lines.specs.Progress.{Open, Flight, Progress, lines_with}
use Rattle.stable_lines.specs.Facts.{PendingContents, HasLanded, IsInGroup}

-- the group of a member's transaction, in the content: its slots but the commit, its lines on their pages, and their classes
pub record IsReady (now : Progress) (image : Image) (f : Flight) : Type 0 where
  pub transaction : Open
  pub is_open : now.going f.member ≡ Some transaction
  pub tsn : f.group.tsn ≡ transaction.tsn
  pub whole : IsWhole (next_number now.journal) f.group
  pub stand : (i : ℕ) (what : Option AijPart) → i < length f.group.lines → slice_get (slots_of f.group) i ≡ Some what → what_stands (image aij_file (next_slot now.journal + i)) ≡ what
  pub changed : (i : ℕ) (undo : Undo) → slice_get transaction.entries i ≡ Some undo → IsInGroup f.group undo.key
  pub landed : (i : ℕ) (line : GroupLine) → slice_get f.group.lines i ≡ Some line → HasLanded f.group line (line_at image line.key)
  pub class : (key : Dbkey) (bytes : List ℕ) → line_in key (lines_with now f) ≡ Some bytes → FitsClass (image (file_of key) (slot_of key)) (f.classes key.area) bytes

-- what a space page that is written must be: each page that a crash may leave in use has its owner there
pub record MayBeSpace (P : PendingContents) (now : Progress) (file number : ℕ) (bytes : List ℕ) : Type 0 where
  pub is : IsSpace bytes number
  pub page : IsPage number
  pub within : number ≤ now.limits.pages
  pub owners : (p : ℕ) (x : List ℕ) → IsDataPage p → space_page_of p ≡ number → P (area_file file) (p - 1) x → 1 ≤ owner_at x → owner_of p bytes ≡ owner_at x
  -- what the slot may hold now
  pub old : List ℕ
  pub pending : P (area_file file) (number - 1) old

-- no header that a crash may leave names a transaction
abbrev pub NamesNone : PendingContents → Type 0
NamesNone P = (member : ℕ) (h : List ℕ) → IsMember member → P (ruj_file member) 0 h → named h ≡ 0
