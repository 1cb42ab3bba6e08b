-- A backup of an image, and what was read of it.
use Rattle.std.specs.Prelude.{ℕ, ◌≤◌, ◌≡◌, List, length, slice_get, Some}
use Rattle.rdb_outside.specs.Disk.{Image}
use Rattle.backup_file.specs.declared.header.BackupHead.{BackupHead}
use Rattle.backup_file.specs.declared.line.BackupLine.{BackupLine}
use Rattle.backup_file.specs.Whole.{AreLines, IsBackup}
use Rattle.backup_making.specs.Making.{file_of, slots_of}
use Rattle.backup_reading.specs.declared.reading.ReadBackup.{ReadBackup}
use Rattle.backup_reading.specs.Passing.{AreFitting}

-- the backup of this number is whole, with this header and these lines
abbrev pub IsBackupOf : Image → ℕ → BackupHead → List BackupLine → Type 0
IsBackupOf image number head lines = IsBackup (slots_of image (file_of number)) head lines

-- It is whole with this header, and no transaction number of its lines is greater.
pub record IsRead (image : Image) (number : ℕ) (read : ReadBackup) : Type 0 where
  pub lines : List BackupLine
  pub is : IsBackupOf image number read.head lines
  pub greatest : (i : ℕ) (line : BackupLine) → slice_get lines i ≡ Some line → line.tsn.number ≤ read.greatest

-- The slots behind the header are lines that fit, as many as it counts, and no transaction number is greater.
pub record ReadsLines (image : Image) (number : ℕ) (head : BackupHead) (greatest : ℕ) : Type 0 where
  pub lines : List BackupLine
  pub count : head.lines ≡ length lines
  pub each : AreLines (slots_of image (file_of number)) lines
  pub fit : AreFitting head.limits.pages lines
  pub below : (i : ℕ) (line : BackupLine) → slice_get lines i ≡ Some line → line.tsn.number ≤ greatest
