-- What a crash leaves while a backup begins and ends.
use Rattle.std.specs.Prelude.{ℕ, ◌⊎◌, List}
use Rattle.rdb_outside.specs.Disk.{Image}
use Rattle.backup_file.specs.declared.header.BackupHead.{BackupHead}
use Rattle.backup_file.specs.declared.line.BackupLine.{BackupLine}
use Rattle.backup_file.specs.Whole.{Stores}
use Rattle.backup_making.specs.Making.{file_of, Former, WasFormer, StoresNothing, slots_of}
use Rattle.stable_lines.specs.Progress.{Progress}
use Rattle.stable_lines.specs.Facts.{StandsAs}

-- the database as it was, and the backup that stood before, or none
pub record IsBeginning (now : Progress) (former : Former) (number : ℕ) (image : Image) : Type 0 where
  pub stands : StandsAs now image
  pub backup : WasFormer former (slots_of image (file_of number)) ⊎ StoresNothing (slots_of image (file_of number))

-- the database as it was, and no backup, or one of these lines
pub record IsEnding (now : Progress) (head : BackupHead) (copies : List BackupLine) (number : ℕ) (image : Image) : Type 0 where
  pub stands : StandsAs now image
  pub backup : StoresNothing (slots_of image (file_of number)) ⊎ Stores (slots_of image (file_of number)) head copies
