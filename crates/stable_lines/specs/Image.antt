-- The map of lines that an image stands for.
use Rattle.std.specs.Prelude.{ℕ, ◌+◌, ◌≤◌, ◌<◌, ◌≡◌, ◌≢◌, true, false, List, length, slice_get, Some}
use Rattle.rdb_types.specs.declared.keys.Dbkey.{Dbkey}
use Rattle.rdb_types.specs.declared.keys.Tsn.{Tsn}
use Rattle.rdb_types.specs.declared.keys.Line.{Line}
use Rattle.journal_reading.specs.rdb_outside.Disk.{Image}
use Rattle.ruj_journal.specs.Entry.{IsEntry}
use Rattle.journal_reading.specs.journal_scan.declared.group.Group.{Group}
use Rattle.line_view.specs.Knowledge.{Lines, IsInOrder, line_in}
use Rattle.line_versions.specs.Lines.{shown}
use Rattle.stable_lines.specs.Slots.{ruj_file, IsMember, line_at, named, Undo, entry_at}
use Rattle.stable_lines.specs.Journal.{has_group}

-- No header names the transaction, or it has a whole group.
abbrev pub IsEnded : Image → List Group → ℕ → Type 0
IsEnded image groups tsn = (member : ℕ) → IsMember member → 1 ≤ tsn → named (image (ruj_file member) 0) ≡ tsn → has_group tsn groups ≡ true

-- The transaction has no whole group, and this is the first member whose journal names it.
pub record IsOpenAt (image : Image) (groups : List Group) (tsn member : ℕ) : Type 0 where
  pub number : 1 ≤ tsn
  pub no_group : has_group tsn groups ≡ false
  pub is_member : IsMember member
  pub names : named (image (ruj_file member) 0) ≡ tsn
  pub first : (other : ℕ) → IsMember other → other < member → named (image (ruj_file other) 0) ≢ tsn

-- these are entries of the transaction in the member's journal, from slot 1 on
abbrev pub HasEntries : Image → ℕ → Tsn → List Undo → Type 0
HasEntries image member tsn undos = (i : ℕ) (undo : Undo) → slice_get undos i ≡ Some undo → IsEntry (image (ruj_file member) (i + 1)) (entry_at tsn (i + 1) undo)

-- none of them is of this line
abbrev pub IsNoneOf : Dbkey → List Undo → Type 0
IsNoneOf key undos = (i : ℕ) (undo : Undo) → slice_get undos i ≡ Some undo → undo.key ≢ key

-- This is the line before the transaction changed it: the first of the entries of that line holds it.
pub record IsBefore (image : Image) (member : ℕ) (tsn : Tsn) (key : Dbkey) (before : Line) : Type 0 where
  pub earlier : List Undo
  pub others : IsNoneOf key earlier
  pub stand : HasEntries image member tsn earlier
  pub here : IsEntry (image (ruj_file member) (length earlier + 1)) (entry_at tsn (length earlier + 1) (record { key = key; before = before }))

-- no entry of the transaction is of this line
abbrev pub HasNoBefore : Image → ℕ → Tsn → Dbkey → Type 0
HasNoBefore image member tsn key = (undos : List Undo) → HasEntries image member tsn undos → IsNoneOf key undos

-- The line that the image stands for: as it stands on its page, but where it bears a transaction that isn't ended, as it was before that.
pub data LineIs (image : Image) (groups : List Group) (key : Dbkey) (line : Line) : Type 0 where
  as_it_stands : IsEnded image groups (line_at image key).tsn.number → line ≡ line_at image key → LineIs image groups key line
  put_back : (member : ℕ) → IsOpenAt image groups (line_at image key).tsn.number member → IsBefore image member (line_at image key).tsn key line → LineIs image groups key line
  not_found : (member : ℕ) → IsOpenAt image groups (line_at image key).tsn.number member → HasNoBefore image member (line_at image key).tsn key → line ≡ line_at image key → LineIs image groups key line

pub record Shows (image : Image) (groups : List Group) (lines : Lines) (key : Dbkey) : Type 0 where
  pub line : Line
  pub is : LineIs image groups key line
  pub shows : shown line ≡ line_in key lines

-- The image, whose whole groups are these, stands for these present lines.
pub record StandsFor (image : Image) (groups : List Group) (lines : Lines) : Type 0 where
  pub in_order : IsInOrder lines
  pub each : (key : Dbkey) → Shows image groups lines key
