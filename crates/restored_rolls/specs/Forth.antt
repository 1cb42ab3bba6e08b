-- A database that was lost, restored from a backup and rolled forward.
use Rattle.std.specs.Prelude.{ℕ, ◌≡◌, List}
use Rattle.rdb_types.specs.declared.file.FileId.{FileId}
use Rattle.rdb_outside.specs.Disk.{Image}
use Rattle.root_file.specs.declared.Root.{Root}
use Rattle.journal_scan.specs.declared.group.Group.{Group}
use Rattle.line_view.specs.Knowledge.{Lines}
use Rattle.backup_file.specs.declared.header.BackupHead.{BackupHead}
use Rattle.backup_file.specs.declared.line.BackupLine.{BackupLine}
use Rattle.backup_file.specs.Whole.{lines_in}
use Rattle.backup_reading.specs.Reading.{IsBackupOf}
use Rattle.stable_lines.specs.Journal.{Journal}
use Rattle.stable_lines.specs.Kept.{Kept}
use Rattle.stable_lines.specs.Rolling.{laid_groups}
use Rattle.rolled_lines.specs.Journals.{follow, laid}
use Rattle.laid_groups.specs.Forward.{Forward}
use Rattle.rmu_recover.specs.Journals.{files_of, AreJournalsIn}
use Rattle.fitted_groups.specs.Meeting.{FitPages}
use Rattle.rmu_recover.specs.Recovering.{IsJournalFile, MayBeRolled, IsSource, FitsImage, AreSound}
use Rattle.restored_rolls.specs.Meeting.{HaveClasses}

-- the after-image journal and its copies are as they were
abbrev pub KeepsJournals : Image → Image → Type 0
KeepsJournals was image = (file : FileId) (slot : ℕ) → IsJournalFile file → image file slot ≡ was file slot

-- In this image a backup is whole, and of the copies and the journal those groups follow on from the backup's last one.
pub record HasBackupAndGroups (was : Image) (number : ℕ) (head : BackupHead) (lines : List BackupLine) (copies : List ℕ) (journals : List Journal) (groups : List Group) : Type 0 where
  pub backup : IsBackupOf was number head lines
  pub stand : AreJournalsIn was (files_of copies) journals
  pub follows : follow head.last_group journals ≡ laid groups

-- The image was kept, and stood for the backup's lines with all the groups laid over them.
pub record StoodBehind (was : Image) (classes : ℕ → ℕ) (now : Lines) (lines : List BackupLine) (groups : List Group) (journal : Journal) : Type 0 where
  pub kept : Kept classes now journal was
  pub behind : now ≡ laid_groups groups (lines_in lines)

-- The restored database, as its pages are: the groups fit these, and behind them the lines have the classes of their areas.
pub record TakesGroups (image : Image) (head : BackupHead) (lines : List BackupLine) (groups : List Group) (classes : ℕ → ℕ) : Type 0 where
  pub fit : FitPages image head.limits.pages groups
  pub classes_are : HaveClasses image groups (lines_in lines) classes

-- All that a roll-forward of the image asks for holds.
pub record IsReadyToRoll (was : Image) (copies : List ℕ) (root : Root) (forward : Forward) (journals : List Journal) (groups : List Group) (journal : Journal) (classes : ℕ → ℕ) (image : Image) : Type 0 where
  pub may : MayBeRolled was root forward image
  pub source : IsSource was copies root forward journals groups journal
  pub fits : FitsImage forward root groups image
  pub sound : AreSound forward groups classes
