-- What the commands leave that keep copies of a database.
use Rattle.std.specs.Prelude.{ℕ, ◌+◌, ◌^◌, ◌≤◌, ◌<◌, ◌≡◌, ◌≢◌, ◌⊎◌, Bool, ◌||◌, nat_eq, List}
use Rattle.rdb_types.specs.declared.file.FileId.{FileId}
use Rattle.rdb_types.specs.declared.file.FileKind.TheVariants.{Area, Ruj}
use Rattle.rdb_outside.specs.Disk.{Image, View, IsPending, LeftNow, LeavesOnly}
use Rattle.backup_file.specs.declared.header.BackupHead.{BackupHead}
use Rattle.backup_file.specs.declared.line.BackupLine.{BackupLine}
use Rattle.backup_making.specs.Making.{Former}
use Rattle.line_view.specs.Knowledge.{Lines}
use Rattle.new_database.specs.Maker.{root_file, aij_file}
use Rattle.stable_lines.specs.Journal.{Journal, next_number}
use Rattle.stable_lines.specs.Kept.{Kept}
use Rattle.stable_lines.specs.History.{HasState}
use Rattle.line_opening.specs.declared.fault.OpeningFault.{OpeningFault}
use Rattle.line_opening.specs.declared.fault.OpeningFault.TheVariants.{Failed, NoMemory, Bad}
use Rattle.journal_anew.specs.Anew.{no_groups}
use Rattle.journal_backup.specs.Copied.{HasEachGroup, IsBackedUp}
use Rattle.rmu_restore.specs.Restored.{IsSource, IsRestored, WithinRestore}
use Rattle.whole_backup.specs.BackedUp.{HasBackup, MightHold, WithinWhole}

-- the statuses of such a command
abbrev pub is_keeping_status : ℕ → Bool
is_keeping_status n = (nat_eq n 0 || nat_eq n 3) || (nat_eq n 4 || nat_eq n 5)

-- the status of a command that gave up
abbrev pub status_at : OpeningFault → ℕ
status_at Failed = 3
status_at NoMemory = 5
status_at (Bad file slot) = 4

-- the groups count from 1, and aren't spent
pub record HasNumbers (journal : Journal) : Type 0 where
  pub first : 1 ≤ next_number journal
  pub last : next_number journal < 2 ^ 62

-- the image stands for these lines
abbrev pub Has : (ℕ → ℕ) → Lines → Image → Type 0
Has classes lines image = HasState (record { lines = lines; classes = classes }) image

-- What may be left while a database is opened and taken into use: what a crash before might have left, or the database with its lines.
abbrev pub WithinOpening : View → (ℕ → ℕ) → Lines → Image → Type 0
WithinOpening v classes lines image = IsPending v image ⊎ Has classes lines image

-- The journal of a database in use: the one that it had, or, where it was restored and not used since, one without groups, whose numbers leave one out.
pub record IsJournalInUse (journal its : Journal) : Type 0 where
  pub since : (its ≡ journal) ⊎ (its ≡ no_groups (next_number journal + 1))

-- The groups of the journal are in the copy of this number, and the journal is empty at the next number; or there was none.
pub record HasCopiedJournal (classes : ℕ → ℕ) (lines : Lines) (journal : Journal) (number : ℕ) (image : Image) : Type 0 where
  pub its : Journal
  pub in_use : IsJournalInUse journal its
  pub copied : IsBackedUp classes lines its number image

-- What may be left while the journal is copied and emptied: as within the opening, or the database with its lines, and each group in the journal or in its copy.
pub data WithinCopying (v : View) (classes : ℕ → ℕ) (lines : Lines) (journal : Journal) (number : ℕ) (image : Image) : Type 0 where
  opening : WithinOpening v classes lines image → WithinCopying v classes lines journal number image
  copying : (its : Journal) → IsJournalInUse journal its → HasEachGroup classes lines its number image → WithinCopying v classes lines journal number image

-- neither the root, nor an area file, nor a journal
pub record IsKept (file : FileId) : Type 0 where
  pub root : file ≢ root_file
  pub area : file.kind ≢ Area
  pub before : file.kind ≢ Ruj
  pub after : file ≢ aij_file

-- ---- what a database has to have

-- It is one that a crash of this engine may leave, and has numbers for its groups.
pub record MayBeOpened (image : Image) : Type 0 where
  pub classes : ℕ → ℕ
  pub lines : Lines
  pub journal : Journal
  pub kept : Kept classes lines journal image
  pub numbers : HasNumbers journal

-- a whole backup of this number, and a journal that a database in use left
pub record MayBeRestored (image : Image) (number : ℕ) : Type 0 where
  pub classes : ℕ → ℕ
  pub head : BackupHead
  pub lines : List BackupLine
  pub journal : Journal
  pub is : IsSource image number classes head lines journal

-- ---- what a command promises, of the disk before it and behind it

-- Each crash behind it leaves the database with the lines that it had, and their whole backup. Rolled forward this gives the lines that the image stands for.
abbrev pub BacksUp : View → View → ℕ → Type 0
BacksUp old new number = (classes : ℕ → ℕ) (lines : Lines) (journal : Journal) → Kept classes lines journal old.content
    → (image : Image) → LeftNow new image → HasBackup classes lines number image

-- A crash at any moment of it leaves what one before might have left, or the database with its lines, and of the backup what stood before, none, or the new one.
abbrev pub BacksUpWithin : View → View → ℕ → Type 0
BacksUpWithin old new number = (classes : ℕ → ℕ) (lines : Lines) (journal : Journal) → Kept classes lines journal old.content
    → (former : Former) → MightHold former old number → LeavesOnly old new (WithinWhole old classes lines former number)

-- Each crash behind it leaves the database with the lines that it had, the groups of its journal in the copy, and the journal empty at the next number.
abbrev pub CopiesJournal : View → View → ℕ → Type 0
CopiesJournal old new number = (classes : ℕ → ℕ) (lines : Lines) (journal : Journal) → Kept classes lines journal old.content
    → (image : Image) → LeftNow new image → HasCopiedJournal classes lines journal number image

-- A crash at any moment of it leaves what one before might have left, or the database with its lines, and each group in the journal or in its copy.
abbrev pub CopiesJournalWithin : View → View → ℕ → Type 0
CopiesJournalWithin old new number = (classes : ℕ → ℕ) (lines : Lines) (journal : Journal) → Kept classes lines journal old.content
    → LeavesOnly old new (WithinCopying old classes lines journal number)

-- Each crash behind it leaves a database that stands for the lines of the backup, restored and not yet used.
abbrev pub Restores : View → View → ℕ → Type 0
Restores old new number = (classes : ℕ → ℕ) (head : BackupHead) (lines : List BackupLine) (journal : Journal) → IsSource old.content number classes head lines journal
    → (image : Image) → LeftNow new image → IsRestored old.content classes head lines journal image

-- A crash at any moment of it leaves what one before might have left, an unfinished restore, or the restored database.
abbrev pub RestoresWithin : View → View → ℕ → Type 0
RestoresWithin old new number = (classes : ℕ → ℕ) (head : BackupHead) (lines : List BackupLine) (journal : Journal) → IsSource old.content number classes head lines journal
    → LeavesOnly old new (WithinRestore old classes head lines journal)
