-- A backup that has the lines of a map up to a key.
use Rattle.std.specs.Prelude.{ℕ, ◌≡◌, IsTrue, Bool, true, false, List, slice_get, Option, Some, None}
use Rattle.std.specs.declared.cmp.Ordering.TheVariants.{Less}
use Rattle.std.specs.Ordering.{is_lt}
use Rattle.rdb_types.specs.declared.file.FileId.{FileId}
use Rattle.rdb_types.specs.declared.keys.Dbkey.{Dbkey}
use Rattle.rdb_types.specs.Order.{dbkey_order}
use Rattle.rdb_outside.specs.Disk.{View, Pending}
use Rattle.line_view.specs.Knowledge.{Lines, IsInOrder, line_in}
use Rattle.backup_file.specs.declared.line.BackupLine.{BackupLine}
use Rattle.backup_file.specs.Whole.{lines_in}
use Rattle.backup_making.specs.declared.making.Stage.{Stage}
use Rattle.backup_making.specs.declared.making.Stage.TheVariants.{Begun, Blanked, Open, Closed, Headed, Ended}
use Rattle.backup_making.specs.Making.{Former, IsAt}
use Rattle.partial_backup.specs.declared.copying.Copying.{Copying}

-- whether a line lies behind the one that was looked at last
abbrev pub is_left : Option Dbkey → Dbkey → Bool
is_left None key = true
is_left (Some from) key = is_lt (dbkey_order from key)

-- These are the lines of the map up to there.
pub record Reaches (from : Option Dbkey) (lines found : Lines) : Type 0 where
  pub in_order : IsInOrder found
  pub each : (key : Dbkey) → is_left from key ≡ false → line_in key found ≡ line_in key lines
  pub none : (key : Dbkey) → is_left from key ≡ true → line_in key found ≡ None

-- The line lies behind, and none of the map lies between.
pub record IsNext (lines : Lines) (from : Option Dbkey) (key : Dbkey) : Type 0 where
  pub behind : is_left from key ≡ true
  pub least : (other : Dbkey) → is_left from other ≡ true → dbkey_order other key ≡ Less → line_in other lines ≡ None

-- no line of the map lies behind
abbrev pub HasNone : Lines → Option Dbkey → Type 0
HasNone lines from = (key : Dbkey) → is_left from key ≡ true → line_in key lines ≡ None

-- which lines the backup has at a stage: those so far, and then all
abbrev pub HasAt : Stage → Option Dbkey → Lines → Lines → Type 0
HasAt Begun from lines found = Reaches from lines found
HasAt Blanked from lines found = Reaches from lines found
HasAt Open from lines found = Reaches from lines found
HasAt Closed from lines found = found ≡ lines
HasAt Headed from lines found = found ≡ lines
HasAt Ended from lines found = found ≡ lines

-- each copy has the class of its logical area
abbrev pub HaveClasses : (ℕ → ℕ) → List BackupLine → Type 0
HaveClasses classes copies = (i : ℕ) (line : BackupLine) → slice_get copies i ≡ Some line → line.class ≡ classes line.key.area

-- The file is where its stage says, with the lines of the map so far.
pub record IsCopying (former : Former) (classes : ℕ → ℕ) (lines : Lines) (v : View) (c : Copying) : Type 0 where
  pub copies : List BackupLine
  pub at : IsAt former v c.backup copies
  pub has : HasAt c.backup.stage c.from lines (lines_in copies)
  pub class : HaveClasses classes copies

-- what each slot of the file might hold before
abbrev pub MightHold : Former → View → FileId → Type 0
MightHold former v file = (slot : ℕ) (bytes : List ℕ) → Pending v file slot bytes → IsTrue (former slot bytes)

-- calls that leave the file as it is
pub record IsUntouched (file : FileId) (old new : View) : Type 0 where
  pub content : (slot : ℕ) → new.content file slot ≡ old.content file slot
  pub pending : (slot : ℕ) (bytes : List ℕ) → Pending new file slot bytes → Pending old file slot bytes
