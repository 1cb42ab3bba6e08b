-- A backup that stands in its file while sessions work, whoever made it.
use Rattle.std.specs.Prelude.{ℕ, ◌≤◌, ◌<◌, ◌≡◌, ◌≢◌, ◌⊎◌, IsTrue, List}
use Rattle.rdb_outside.specs.Disk.{View, Image, Pending, IsPending}
use Rattle.root_file.specs.declared.Root.{Root}
use Rattle.root_file.specs.Root.{IsRoot}
use Rattle.line_moves.specs.new_database.aij_journal.Header.{IsHeader}
use Rattle.line_moves.specs.new_database.Maker.{aij_file, root_file}
use Rattle.line_view.specs.Knowledge.{Lines}
use Rattle.stable_lines.specs.Journal.{next_number}
use Rattle.stable_lines.specs.Rolling.{Rolls}
use Rattle.backup_file.specs.declared.header.BackupHead.{BackupHead}
use Rattle.backup_file.specs.declared.line.BackupLine.{BackupLine}
use Rattle.backup_file.specs.Whole.{IsBackup, lines_in}
use Rattle.backup_steps.specs.backup_making.Making.{file_of, slots_of}
use Rattle.backup_steps.specs.next_lines.partial_backup.Partial.{HaveClasses}

-- what a whole backup has: its lines, the class of each logical area, and the last group that they have
pub record Stood : Type 0 where
  pub classes : ℕ → ℕ
  pub lines : Lines
  pub last_group : ℕ

-- The slots are a whole backup of these lines, each with the class of its logical area.
pub record IsWholeOf (b : Stood) (slots : ℕ → List ℕ) : Type 0 where
  pub head : BackupHead
  pub copies : List BackupLine
  pub is : IsBackup slots head copies
  pub has : lines_in copies ≡ b.lines
  pub class : HaveClasses b.classes copies
  pub last : head.last_group ≡ b.last_group

-- the header of the image's journal numbers its groups from 1 on
abbrev pub NumbersFromOne : Image → Type 0
NumbersFromOne image = (first : ℕ) → IsHeader (image aij_file 0) first → 1 ≤ first

-- Rolled forward over the image's groups behind it, the backup gives what the image stands for. The next group comes behind it too.
pub record RollsFrom (base : Lines) (last : ℕ) (image : Image) : Type 0 where
  pub rolls : Rolls base last image
  pub below : last < next_number rolls.journal

-- Each image that a crash since a moment might have left, and each that has in each slot what a crash may leave there, has the backup of this number whole; and rolled forward it gives what the image stands for.
pub record HasBackup (v : View) (number since : ℕ) (b : Stood) : Type 0 where
  pub tells : IsTrue v.tells
  pub early : since ≤ v.moment
  pub left : (image : Image) → v.left_since since image → IsWholeOf b (slots_of image (file_of number))
  pub pending : (slots : ℕ → List ℕ) → ((i : ℕ) → Pending v (file_of number) i (slots i)) → IsWholeOf b slots
  pub rolls : (image : Image) → v.left_since since image ⊎ IsPending v image → NumbersFromOne image → RollsFrom b.lines b.last_group image

-- the database is no restored one that wasn't used since, by the root that reads give
abbrev pub IsInUse : View → Type 0
IsInUse v = (root : Root) → IsRoot (v.content root_file 0) root → root.state ≢ 3
