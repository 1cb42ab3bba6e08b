-- What the slots of a backup may hold after a crash, while it is made.
use Rattle.std.specs.Prelude.{ℕ, ◌+◌, ◌≤◌, ◌<◌, ◌≡◌, ◌≢◌, ◌⊎◌, Bool, IsTrue, true, false, List, [], ◌∷◌, ◌++◌, length, slice_get, Option, Some, None}
use Rattle.rdb_types.specs.declared.file.FileId.{FileId}
use Rattle.rdb_types.specs.declared.file.FileKind.TheVariants.{Backup as BackupFile}
use Rattle.rdb_outside.specs.Disk.{Image, View, Pending, Elapses, zeros}
use Rattle.rdb_outside.specs.Causes.{Rose}
use Rattle.backup_file.specs.declared.header.BackupHead.{BackupHead}
use Rattle.backup_file.specs.declared.line.BackupLine.{BackupLine}
use Rattle.backup_file.specs.Header.{IsHead}
use Rattle.backup_file.specs.Line.{IsBackupLine}
use Rattle.backup_file.specs.Whole.{AreLines, Stores}
use Rattle.backup_making.specs.declared.making.Backup.{Backup}
use Rattle.backup_making.specs.declared.making.Stage.{Stage}
use Rattle.backup_making.specs.declared.making.BackupTurn.{BackupTurn}
use Rattle.backup_making.specs.declared.making.BackupTurn.TheVariants.{Failed}
use Rattle.backup_making.specs.declared.making.Stage.TheVariants.{Begun, Blanked, Open, Closed, Headed, Ended}

abbrev pub file_of : ℕ → FileId
file_of number = record { kind = BackupFile; number = number }

-- ---- one device call

-- other files than this are as they were
pub record KeepsOthers (file : FileId) (old new : View) : Type 0 where
  pub content : (f : FileId) (i : ℕ) → f ≢ file → new.content f i ≡ old.content f i
  pub pending : (f : FileId) (i : ℕ) (x : List ℕ) → f ≢ file → Pending new f i x → Pending old f i x

-- A call was made, which changes this file at most. It moves the time on, or counts as a fault.
pub record Steps (file : FileId) (old new : View) (done : Bool) : Type 0 where
  pub told : new.tells ≡ old.tells
  pub later : old.moment ≤ new.moment
  pub moves : done ≡ true → old.moment < new.moment
  pub no_fewer : old.faults ≤ new.faults
  pub cause : done ≡ false → Rose old.faults new.faults
  pub time : IsTrue old.tells → Elapses old new
  pub others : IsTrue old.tells → KeepsOthers file old new

-- ---- the slots at each stage

-- what each slot of the file might hold before
abbrev pub Former : Type 0
Former = ℕ → List ℕ → Bool

-- the header of the backup
abbrev pub head_of : Backup → List BackupLine → BackupHead
head_of b lines = record { format = 1; limits = b.limits; last_group = b.last_group; lines = length lines }

-- the file holds what it held, but for zeros in its first slot
abbrev pub IsFormer : Former → View → FileId → Type 0
IsFormer former v file = (i : ℕ) (x : List ℕ) → Pending v file i x → IsTrue (former i x) ⊎ ((i ≡ 0) × (x ≡ zeros file))

pub record IsBlanked (former : Former) (v : View) (file : FileId) : Type 0 where
  pub slots : IsFormer former v file
  pub first : v.content file 0 ≡ zeros file

-- the first slot is zeros for sure, and reads give these lines
pub record IsOpen (v : View) (file : FileId) (lines : List BackupLine) : Type 0 where
  pub blank : (x : List ℕ) → Pending v file 0 x → x ≡ zeros file
  pub first : v.content file 0 ≡ zeros file
  pub reads : AreLines (v.content file) lines

-- these lines stand for sure
abbrev pub LinesStand : View → FileId → List BackupLine → Type 0
LinesStand v file lines = (i : ℕ) (line : BackupLine) (x : List ℕ) → slice_get lines i ≡ Some line → Pending v file (i + 1) x → IsBackupLine x (i + 1) line

-- the header may stand
pub record IsClosed (v : View) (file : FileId) (head : BackupHead) (lines : List BackupLine) : Type 0 where
  pub header : (x : List ℕ) → Pending v file 0 x → (x ≡ zeros file) ⊎ IsHead x head
  pub stand : LinesStand v file lines

pub record IsHeaded (v : View) (file : FileId) (head : BackupHead) (lines : List BackupLine) : Type 0 where
  pub closed : IsClosed v file head lines
  pub first : IsHead (v.content file 0) head

-- the header stands
pub record IsEnded (v : View) (file : FileId) (head : BackupHead) (lines : List BackupLine) : Type 0 where
  pub header : (x : List ℕ) → Pending v file 0 x → IsHead x head
  pub stand : LinesStand v file lines

abbrev pub StandsAt : Former → View → FileId → BackupHead → List BackupLine → Stage → Type 0
StandsAt former v file head lines Begun = IsFormer former v file × (lines ≡ [])
StandsAt former v file head lines Blanked = IsBlanked former v file × (lines ≡ [])
StandsAt former v file head lines Open = IsOpen v file lines
StandsAt former v file head lines Closed = IsClosed v file head lines
StandsAt former v file head lines Headed = IsHeaded v file head lines
StandsAt former v file head lines Ended = IsEnded v file head lines

-- The backup has these lines so far, and the file is where its stage says.
pub record IsAt (former : Former) (v : View) (b : Backup) (lines : List BackupLine) : Type 0 where
  pub count : b.lines ≡ length lines
  pub stands : StandsAt former v (file_of b.number) (head_of b lines) lines b.stage

-- the lines with that of a step
abbrev pub with_line : List BackupLine → Option BackupLine → List BackupLine
with_line lines None = lines
with_line lines (Some line) = lines ++ line ∷ []

-- ---- stage by stage

abbrev pub next_stage : Stage → Option BackupLine → Stage
next_stage Begun line = Blanked
next_stage Blanked line = Open
next_stage Open None = Closed
next_stage Open (Some line) = Open
next_stage Closed line = Headed
next_stage Headed line = Ended
next_stage Ended line = Ended

abbrev pub count_with : ℕ → Option BackupLine → ℕ
count_with count None = count
count_with count (Some line) = count + 1

abbrev pub advanced : Backup → Option BackupLine → Backup
advanced b line = record b { lines = count_with b.lines line; stage = next_stage b.stage line }

abbrev pub is_done : BackupTurn → Bool
is_done Failed = false
is_done _ = true

-- ---- what a crash leaves

abbrev pub slots_of : Image → FileId → ℕ → List ℕ
slots_of image file i = image file i

-- the file may have stood so before
abbrev pub WasFormer : Former → (ℕ → List ℕ) → Type 0
WasFormer former slots = (i : ℕ) → IsTrue (former i (slots i))

-- the slots have no header of a backup
abbrev pub StoresNothing : (ℕ → List ℕ) → Type 0
StoresNothing slots = (head : BackupHead) → IsHead (slots 0) head → ⊥

-- After a crash the file is the old one, or none, or the new one.
pub data Leaves (former : Former) (head : BackupHead) (lines : List BackupLine) (slots : ℕ → List ℕ) : Type 0 where
  the_old : WasFormer former slots → Leaves former head lines slots
  none : StoresNothing slots → Leaves former head lines slots
  the_new : Stores slots head lines → Leaves former head lines slots
