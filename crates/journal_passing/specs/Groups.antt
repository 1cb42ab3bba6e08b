-- What is told of a group that was passed.
use Rattle.std.specs.Prelude.{ℕ, ◌≡◌, length}
use Rattle.rdb_types.specs.declared.file.FileId.{FileId}
use Rattle.rdb_outside.specs.Disk.{Image}
use Rattle.journal_reading.specs.journal_scan.declared.group.Group.{Group}
use Rattle.journal_reading.specs.journal_scan.Whole.{count_of, slots_of, IsWhole}
use Rattle.journal_reading.specs.Journal.{standing}
use Rattle.journal_passing.specs.declared.passing.PassedGroup.{PassedGroup}

-- Whose a whole group of this number is, and how many lines it has. Where the disk tells, its slots stand from this one on.
pub record IsPassed (image : Image) (file : FileId) (tells : Type 0) (slot number : ℕ) (found : PassedGroup) : Type 0 where
  pub group : Group
  pub whole : IsWhole number group
  pub tsn : group.tsn ≡ found.tsn
  pub lines : length group.lines ≡ found.lines
  pub stands : tells → standing image file slot (count_of group) ≡ slots_of group
