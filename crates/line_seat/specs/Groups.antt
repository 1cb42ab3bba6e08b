-- The group of a commit.
use Rattle.std.specs.Prelude.{ℕ, ◌+◌, ◌<◌, ◌≡◌, true, List, [], ◌∷◌, slice_get, Option, Some, None}
use Rattle.rdb_types.specs.declared.keys.Dbkey.{Dbkey}
use Rattle.rdb_types.specs.declared.keys.Line.{Line}
use Rattle.rdb_page.specs.Page.{lines_of}
use Rattle.rdb_outside.specs.Disk.{Image}
use Rattle.aij_journal.specs.declared.part.GroupLine.{GroupLine}
use Rattle.aij_journal.specs.declared.part.AijPart.{AijPart}
use Rattle.aij_journal.specs.Part.{IsAllowedLine}
use Rattle.journal_scan.specs.declared.group.Group.{Group}
use Rattle.journal_scan.specs.Standing.{what_stands}
use Rattle.journal_scan.specs.Whole.{slots_of, ascends}
use Rattle.line_moves.specs.new_database.Maker.{aij_file}
use Rattle.line_view.specs.Knowledge.{line_in}
use Rattle.line_moves.specs.stable_lines.Slots.{Undo, file_of, slot_of}
use Rattle.line_moves.specs.stable_lines.Journal.{next_number, next_slot}
use Rattle.line_moves.specs.stable_lines.Kept.{FitsClass}
use Rattle.line_moves.specs.stable_lines.Progress.{Open, Flight, Progress, lines_with}
use Rattle.line_moves.specs.stable_lines.Facts.{PendingContents, IsInGroup}
use Rattle.line_moves.specs.declared.places.Place.{Place}
use Rattle.line_moves.specs.Changes.{IsPlaceOf, IsEntered}
use Rattle.line_moves.specs.Classes.{HaveTheirClasses}
use Rattle.line_moves.specs.Lines.{ChangedLines}
use Rattle.line_seat.specs.declared.commit.GroupPlace.{GroupPlace}

-- a line as the commit leaves it
abbrev pub group_line : Dbkey × Line → ℕ → GroupLine
group_line line class = record { key = line.0; class = class; state = line.1.state; image = line.1.image }

abbrev pub group_lines : ChangedLines → List ℕ → List GroupLine
group_lines [] classes = []
group_lines (line ∷ lines) [] = []
group_lines (line ∷ lines) (class ∷ classes) = group_line line class ∷ group_lines lines classes

abbrev pub group_of : GroupPlace → ChangedLines → List ℕ → Group
group_of at lines classes = record { number = at.number; tsn = at.tsn; lines = group_lines lines classes }

-- each line may stand in a group
abbrev pub AreAllowed : ChangedLines → List ℕ → Type 0
AreAllowed lines classes = (i : ℕ) (line : Dbkey × Line) (class : ℕ) → slice_get lines i ≡ Some line → slice_get classes i ≡ Some class → IsAllowedLine (group_line line class)

-- each line comes with its area's class
abbrev pub AreOfClasses : (ℕ → ℕ) → ChangedLines → List ℕ → Type 0
AreOfClasses by_area lines classes = (i : ℕ) (line : Dbkey × Line) (class : ℕ) → slice_get lines i ≡ Some line → slice_get classes i ≡ Some class → class ≡ by_area line.0.area

-- each line is one of those that a page of its class has
abbrev pub LieWithin : ChangedLines → List ℕ → Type 0
LieWithin lines classes = (i : ℕ) (line : Dbkey × Line) (class : ℕ) → slice_get lines i ≡ Some line → slice_get classes i ≡ Some class → line.0.line < lines_of class

-- Pages have room for the lines: each line comes with its area's class, which the area's pages have, and is one that such a page has.
pub record HaveRoom (P : PendingContents) (by_area : ℕ → ℕ) (lines : ChangedLines) (classes : List ℕ) : Type 0 where
  pub of_areas : AreOfClasses by_area lines classes
  pub pages : HaveTheirClasses by_area P
  pub within : LieWithin lines classes

-- each line has a place
abbrev pub ArePlaced : ChangedLines → Type 0
ArePlaced lines = (i : ℕ) (line : Dbkey × Line) → slice_get lines i ≡ Some line → (place : Place) × IsPlaceOf line.0 place

-- each content of the space page of a line's page says that the line's area owns the page
abbrev pub AreEntered : PendingContents → ChangedLines → Type 0
AreEntered P lines = (i : ℕ) (line : Dbkey × Line) (place : Place) → slice_get lines i ≡ Some line → IsPlaceOf line.0 place → IsEntered P place line.0.area

-- each line bears the transaction
abbrev pub AreOfTransaction : Open → ChangedLines → Type 0
AreOfTransaction o lines = (i : ℕ) (line : Dbkey × Line) → slice_get lines i ≡ Some line → line.1.tsn ≡ o.tsn

-- This is the group of the member's transaction, to be written where the journal ends, while no other flies.
pub record IsCommitting (now : Progress) (member : ℕ) (o : Open) (at : GroupPlace) (lines : ChangedLines) (classes : List ℕ) (f : Flight) : Type 0 where
  pub its : f.member ≡ member
  pub is_open : now.going member ≡ Some o
  pub tsn : at.tsn ≡ o.tsn
  pub group : f.group ≡ group_of at lines classes
  pub numbered : at.number ≡ next_number now.journal
  pub in_slot : at.slot ≡ next_slot now.journal
  pub in_order : ascends None (group_lines lines classes) ≡ true
  pub bears : AreOfTransaction o lines
  pub changed : (i : ℕ) (undo : Undo) → slice_get o.entries i ≡ Some undo → IsInGroup f.group undo.key
  pub no_flight : now.flight ≡ None
  pub no_former : now.former ≡ None

-- so many slots of the group are in the journal
abbrev pub AreImaged : Image → Progress → Flight → ℕ → Type 0
AreImaged image now f n = (i : ℕ) (what : Option AijPart) → i < n → slice_get (slots_of f.group) i ≡ Some what → what_stands (image aij_file (next_slot now.journal + i)) ≡ what

-- the lines are those of entries of the transaction
abbrev pub AreOfEntries : Open → List Undo → ChangedLines → Type 0
AreOfEntries o all lines = (i : ℕ) (line : Dbkey × Line) → slice_get lines i ≡ Some line → (line.1.tsn ≡ o.tsn) × (k : ℕ) × (undo : Undo) × (slice_get all k ≡ Some undo) × (undo.key ≡ line.0)

-- each line that is committed then lies on a page of its area's class
abbrev pub HaveClasses : Image → Progress → Flight → Type 0
HaveClasses image now f = (key : Dbkey) (bytes : List ℕ) → line_in key (lines_with now f) ≡ Some bytes → FitsClass (image (file_of key) (slot_of key)) (f.classes key.area) bytes
