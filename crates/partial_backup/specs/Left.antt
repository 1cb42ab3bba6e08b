-- What a crash leaves of a backup while its lines are copied.
use Rattle.std.specs.Prelude.{ℕ, ◌≤◌, ◌<◌, ◌≡◌, List, length, Some}
use Rattle.rdb_types.specs.declared.keys.Dbkey.{Dbkey}
use Rattle.rdb_types.specs.declared.keys.Limits.{Limits}
use Rattle.rdb_outside.specs.Disk.{Image}
use Rattle.rdb_page.specs.Page.{IsOwner, lines_of}
use Rattle.area_files.specs.Areas.{IsDataPage}
use Rattle.line_view.specs.Knowledge.{Lines, line_in}
use Rattle.backup_file.specs.declared.header.BackupHead.{BackupHead}
use Rattle.backup_file.specs.declared.line.BackupLine.{BackupLine}
use Rattle.backup_file.specs.Whole.{lines_in, Stores}
use Rattle.backup_making.specs.declared.making.Backup.{Backup}
use Rattle.backup_making.specs.Making.{file_of, head_of, Former, WasFormer, StoresNothing, slots_of}
use Rattle.partial_backup.specs.Partial.{HaveClasses}

-- The slots of the file are a backup of these lines, each with the class of its logical area.
pub record HasCopied (classes : ℕ → ℕ) (lines : Lines) (b : Backup) (image : Image) : Type 0 where
  pub copies : List BackupLine
  pub stores : Stores (slots_of image (file_of b.number)) (head_of b copies) copies
  pub has : lines_in copies ≡ lines
  pub class : HaveClasses classes copies

-- the backup that stood before, none, or that of these lines
pub data IsOldOrNew (former : Former) (classes : ℕ → ℕ) (lines : Lines) (b : Backup) (image : Image) : Type 0 where
  the_old : WasFormer former (slots_of image (file_of b.number)) → IsOldOrNew former classes lines b image
  none : StoresNothing (slots_of image (file_of b.number)) → IsOldOrNew former classes lines b image
  the_new : HasCopied classes lines b image → IsOldOrNew former classes lines b image

-- Each line of the map has its place on a data page within the limit, of its area's class. Lines of one page of an area file are of one area.
pub record FitOnPages (classes : ℕ → ℕ) (pages : ℕ) (lines : Lines) : Type 0 where
  pub page : (key : Dbkey) (image : List ℕ) → line_in key lines ≡ Some image → IsDataPage key.page
  pub within : (key : Dbkey) (image : List ℕ) → line_in key lines ≡ Some image → key.page ≤ pages
  pub line : (key : Dbkey) (image : List ℕ) → line_in key lines ≡ Some image → key.line < lines_of (classes key.area)
  pub area : (key : Dbkey) (image : List ℕ) → line_in key lines ≡ Some image → (file : ℕ) × IsOwner file key.area
  pub share : (a b : Dbkey) (x y : List ℕ) (file : ℕ) → line_in a lines ≡ Some x → line_in b lines ≡ Some y → IsOwner file a.area → IsOwner file b.area → a.page ≡ b.page → a.area ≡ b.area
