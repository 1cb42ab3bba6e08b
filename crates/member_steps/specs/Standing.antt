-- The committed line of a key that an open transaction has changed.
use Rattle.std.specs.Prelude.{ℕ, ◌+◌, ◌≡◌, ◌⊎◌, Some, slice_get}
use Rattle.rdb_types.specs.declared.keys.Dbkey.{Dbkey}
use Rattle.rdb_outside.specs.Disk.{Image}
use Rattle.ruj_journal.specs.Entry.{IsEntry}
use Rattle.line_view.specs.Knowledge.{Lines, line_in}
use Rattle.line_versions.specs.Lines.{shown}
use Rattle.disk_seats.specs.stable_lines.Slots.{ruj_file, Undo, entry_at}
use Rattle.disk_seats.specs.stable_lines.Journal.{Journal}
use Rattle.disk_seats.specs.stable_lines.Kept.{Kept}
use Rattle.disk_seats.specs.stable_lines.Progress.{Open, lines_with}
use Rattle.disk_seats.specs.Ledgers.{Commit, Ledger}

-- a before-image of the transaction is of this line, stands in its slot, and is what is committed
pub record IsBefore (image : Image) (lines : Lines) (member : ℕ) (o : Open) (key : Dbkey) : Type 0 where
  pub index : ℕ
  pub undo : Undo
  pub is : slice_get o.entries index ≡ Some undo
  pub key_is : undo.key ≡ key
  pub entry : IsEntry (image (ruj_file member) (index + 1)) (entry_at o.tsn (index + 1) undo)
  pub shows : shown undo.before ≡ line_in key lines

-- an image that opening can start from, and that stands for these lines
pub record HasLines (image : Image) (lines : Lines) : Type 0 where
  pub classes : ℕ → ℕ
  pub journal : Journal
  pub kept : Kept classes lines journal image

-- It stands for what is committed, or for that with the commit that is under way.
abbrev pub MayBeLeft : Ledger → Image → Type 0
MayBeLeft g image = HasLines image g.base.lines ⊎ ((c : Commit) × (g.commit ≡ Some c) × HasLines image (lines_with g.base c.flight))
