-- What a backup of an opened database leaves.
use Rattle.std.specs.Prelude.{ℕ, ◌^◌, ◌≤◌, ◌≡◌, ◌⊎◌, IsTrue, List, slice_get, Some}
use Rattle.rdb_outside.specs.Disk.{Image, View, Pending, IsPending}
use Rattle.backup_file.specs.declared.header.BackupHead.{BackupHead}
use Rattle.backup_file.specs.declared.line.BackupLine.{BackupLine}
use Rattle.backup_file.specs.Whole.{IsBackup, lines_in}
use Rattle.backup_making.specs.Making.{file_of, Former, WasFormer, StoresNothing, slots_of}
use Rattle.line_view.specs.Knowledge.{Lines}
use Rattle.stable_lines.specs.History.{HasState}
use Rattle.stable_lines.specs.Rolling.{Rolls}

-- The backup of this number is whole and has these lines, each with the class of its logical area. Rolled forward over the groups of the image it gives the lines that the image stands for.
pub record IsBackedUp (classes : ℕ → ℕ) (lines : Lines) (number : ℕ) (image : Image) : Type 0 where
  pub head : BackupHead
  pub copies : List BackupLine
  pub is : IsBackup (slots_of image (file_of number)) head copies
  pub has : lines_in copies ≡ lines
  pub class : (i : ℕ) (line : BackupLine) → slice_get copies i ≡ Some line → line.class ≡ classes line.key.area
  pub rolls : Rolls lines head.last_group image

-- The database stands for these lines, and their backup is whole.
pub record HasBackup (classes : ℕ → ℕ) (lines : Lines) (number : ℕ) (image : Image) : Type 0 where
  pub state : HasState (record { lines = lines; classes = classes }) image
  pub backup : IsBackedUp classes lines number image

-- what may stand of the backup while it is made: what stood before, none, or the new one
pub data IsOldOrNew (former : Former) (classes : ℕ → ℕ) (lines : Lines) (number : ℕ) (image : Image) : Type 0 where
  the_old : WasFormer former (slots_of image (file_of number)) → IsOldOrNew former classes lines number image
  none : StoresNothing (slots_of image (file_of number)) → IsOldOrNew former classes lines number image
  the_new : IsBackedUp classes lines number image → IsOldOrNew former classes lines number image

-- The database stands for these lines at each moment.
pub record WithinBackup (classes : ℕ → ℕ) (lines : Lines) (former : Former) (number : ℕ) (image : Image) : Type 0 where
  pub state : HasState (record { lines = lines; classes = classes }) image
  pub backup : IsOldOrNew former classes lines number image

-- what each slot of the backup might hold before
abbrev pub MightHold : Former → View → ℕ → Type 0
MightHold former v number = (slot : ℕ) (bytes : List ℕ) → Pending v (file_of number) slot bytes → IsTrue (former slot bytes)

-- the number of the next group counts from 1, and isn't spent
pub record IsNumbered (number : ℕ) : Type 0 where
  pub first : 1 ≤ number
  pub last : number ≤ 2 ^ 62

-- What may be left while a database is opened and backed up: what a crash before might have left, or what one leaves within the backup.
abbrev pub WithinWhole : View → (ℕ → ℕ) → Lines → Former → ℕ → Image → Type 0
WithinWhole v classes lines former number image = IsPending v image ⊎ WithinBackup classes lines former number image
