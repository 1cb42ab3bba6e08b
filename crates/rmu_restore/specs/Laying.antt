-- The lines of a backup, laid one by one on pages that were never used.
use Rattle.std.specs.Prelude.{ℕ, ◌-◌, ◌≤◌, ◌≡◌, ◌≢◌, ◌⊎◌, true, List, [], ◌∷◌, ◌++◌, slice_get, Some}
use Rattle.rdb_types.specs.declared.file.FileId.{FileId}
use Rattle.rdb_types.specs.declared.file.FileKind.TheVariants.{Area, Snap, Ruj}
use Rattle.rdb_types.specs.declared.keys.Dbkey.{Dbkey}
use Rattle.rdb_types.specs.declared.keys.Line.{Line}
use Rattle.rdb_types.specs.declared.keys.LineState.TheVariants.{Present}
use Rattle.rdb_outside.specs.Disk.{Image, zeros}
use Rattle.rdb_page.specs.Page.{IsUnused}
use Rattle.new_database.specs.Maker.{root_file}
use Rattle.area_files.specs.Areas.{IsDataPage}
use Rattle.line_versions.specs.Lines.{shown}
use Rattle.std.specs.FinMap.Entries.{is_sorted}
use Rattle.rdb_types.specs.Order.{dbkey_order}
use Rattle.line_view.specs.Knowledge.{line_in}
use Rattle.stable_lines.specs.Slots.{ruj_file, area_file, file_of, slot_of, IsMember, IsAreaFile, line_at}
use Rattle.stable_lines.specs.Kept.{IsWellFormed}
use Rattle.backup_file.specs.declared.line.BackupLine.{BackupLine}
use Rattle.backup_file.specs.Whole.{lines_in, HasPage, SharePages}
use Rattle.guarded_lines.specs.Laying.{IsArea, IsOfArea, page_of}

-- a before-image journal
abbrev pub IsJournal : FileId → Type 0
IsJournal file = file.kind ≡ Ruj

abbrev pub IsSnapshot : FileId → Type 0
IsSnapshot file = file.kind ≡ Snap

-- the files that a restore writes, beside the root
abbrev pub IsWritten : FileId → Type 0
IsWritten file = IsArea file ⊎ IsJournal file ⊎ IsSnapshot file

-- neither of these, nor the root
pub record IsOther (file : FileId) : Type 0 where
  pub root : file ≢ root_file
  pub area : file.kind ≢ Area
  pub journal : file.kind ≢ Ruj
  pub snapshot : file.kind ≢ Snap

-- no page was ever used, and no journal says anything
pub record IsBlank (image : Image) : Type 0 where
  pub area : (file slot : ℕ) → IsAreaFile file → image (area_file file) slot ≡ zeros (area_file file)
  pub journal : (member slot : ℕ) → IsMember member → image (ruj_file member) slot ≡ zeros (ruj_file member)

-- the line as a backup has it, without a version before it
abbrev pub line_of : BackupLine → Line
line_of l = record { state = Present; tsn = l.tsn; chain = 0; image = l.image }

-- a page on which one of the lines stands
pub record IsUsedBy (lines : List BackupLine) (file number : ℕ) : Type 0 where
  pub index : ℕ
  pub line : BackupLine
  pub is : slice_get lines index ≡ Some line
  pub in_file : file_of line.key ≡ area_file file
  pub in_slot : slot_of line.key ≡ number - 1

-- These lines stand in the image and no others, each on a page of its area and class, and no other page is used.
pub record HasLaid (pages greatest : ℕ) (lines : List BackupLine) (image : Image) : Type 0 where
  pub well_formed : IsWellFormed image pages
  pub stands : (key : Dbkey) → shown (line_at image key) ≡ line_in key (lines_in lines)
  pub on_pages : (i : ℕ) (line : BackupLine) → slice_get lines i ≡ Some line → IsOfArea line.key.area line.class (page_of image line.key)
  pub used : (file number : ℕ) → IsAreaFile file → IsDataPage number → IsUnused (image (area_file file) (number - 1)) ⊎ IsUsedBy lines file number
  pub below : (key : Dbkey) → (line_at image key).tsn.number ≤ greatest

-- the line may be laid behind the others: it fits a page, and all of them are in order and share pages
pub record MayJoin (pages : ℕ) (lines : List BackupLine) (line : BackupLine) : Type 0 where
  pub page : HasPage pages line
  pub in_order : is_sorted dbkey_order (lines_in (lines ++ line ∷ [])) ≡ true
  pub share : SharePages (lines ++ line ∷ [])
  pub on_pages : (i : ℕ) (l : BackupLine) → slice_get lines i ≡ Some l → HasPage pages l

-- no transaction number of the lines is greater
abbrev pub AreUpTo : ℕ → List BackupLine → Type 0
AreUpTo greatest lines = (i : ℕ) (line : BackupLine) → slice_get lines i ≡ Some line → line.tsn.number ≤ greatest
