-- What a restore leaves.
use Rattle.std.specs.Prelude.{ℕ, ◌≤◌, ◌<◌, ◌≡◌, List, slice_get, Some}
use Rattle.rdb_outside.specs.Disk.{Image, View, IsPending}
use Rattle.root_file.specs.declared.Root.{Root}
use Rattle.root_file.specs.Root.{IsRoot}
use Rattle.journal_scan.specs.declared.group.Group.{Group}
use Rattle.backup_file.specs.declared.header.BackupHead.{BackupHead}
use Rattle.backup_file.specs.declared.line.BackupLine.{BackupLine}
use Rattle.backup_file.specs.Whole.{lines_in}
use Rattle.new_database.specs.Maker.{root_file}
use Rattle.stable_lines.specs.Journal.{Journal, IsJournalOf, next_number}
use Rattle.stable_lines.specs.Kept.{Kept, HasNoCommit}
use Rattle.backup_reading.specs.Reading.{IsBackupOf}
use Rattle.guarded_root.specs.Guarded.{IsInState}
use Rattle.rmu_restore.specs.declared.restoring.Plan.{Plan}

-- no transaction number of the groups is greater
abbrev pub HaveUpTo : ℕ → List Group → Type 0
HaveUpTo greatest groups = (i : ℕ) (g : Group) → slice_get groups i ≡ Some g → g.tsn.number ≤ greatest

-- A whole backup of this number, whose lines have the classes of their areas; and an after-image journal in which no commit stands behind its groups.
pub record IsSource (image : Image) (number : ℕ) (classes : ℕ → ℕ) (head : BackupHead) (lines : List BackupLine) (journal : Journal) : Type 0 where
  pub backup : IsBackupOf image number head lines
  pub class : (i : ℕ) (line : BackupLine) → slice_get lines i ≡ Some line → line.class ≡ classes line.key.area
  pub has_journal : IsJournalOf image journal
  pub commits : HasNoCommit image (next_number journal)

-- The root says that the database was restored from a backup with this header, and hasn't lost the numbers that were drawn.
pub record IsRestoredRoot (head : BackupHead) (former : List ℕ) (root : Root) : Type 0 where
  pub state : root.state ≡ 3
  pub limits : root.limits ≡ head.limits
  pub applied : root.applied ≡ head.last_group
  pub ceiling : (was : Root) → IsRoot former was → was.ceiling ≤ root.ceiling

-- The image stands for the lines of the backup, with the journal that was there.
pub record IsRestored (former : Image) (classes : ℕ → ℕ) (head : BackupHead) (lines : List BackupLine) (journal : Journal) (image : Image) : Type 0 where
  pub root : Root
  pub is : IsRoot (image root_file 0) root
  pub says : IsRestoredRoot head (former root_file 0) root
  pub kept : Kept classes (lines_in lines) journal image

-- What a crash may leave within a restore: what it might have left before, an unfinished restore, or the restored database.
pub data WithinRestore (v : View) (classes : ℕ → ℕ) (head : BackupHead) (lines : List BackupLine) (journal : Journal) (image : Image) : Type 0 where
  as_before : IsPending v image → WithinRestore v classes head lines journal image
  unfinished : IsInState 2 image → WithinRestore v classes head lines journal image
  restored : IsRestored v.content classes head lines journal image → WithinRestore v classes head lines journal image

-- What a restore goes by: the root, which bears no number that a line or a group has, and how many lines there are.
pub record IsPlanned (former : Image) (head : BackupHead) (lines : List BackupLine) (journal : Journal) (plan : Plan) : Type 0 where
  pub says : IsRestoredRoot head (former root_file 0) plan.root
  pub count : plan.lines ≡ head.lines
  pub line : (i : ℕ) (line : BackupLine) → slice_get lines i ≡ Some line → line.tsn.number < plan.root.ceiling
  pub group : (i : ℕ) (g : Group) → slice_get journal.groups i ≡ Some g → g.tsn.number < plan.root.ceiling
