-- A whole backup: what its slots say, and that this fits a database.
use Rattle.std.specs.Prelude.{ℕ, ◌+◌, ◌≤◌, ◌<◌, ◌≡◌, true, List, length, map, slice_get, Some}
use Rattle.std.specs.FinMap.Entries.{is_sorted}
use Rattle.rdb_types.specs.Order.{dbkey_order}
use Rattle.rdb_types.specs.declared.keys.Dbkey.{Dbkey}
use Rattle.root_file.specs.Root.{AreLimits}
use Rattle.rdb_page.specs.Page.{IsOwner, lines_of}
use Rattle.area_files.specs.Areas.{IsDataPage}
use Rattle.backup_file.specs.declared.header.BackupHead.{BackupHead}
use Rattle.backup_file.specs.declared.line.BackupLine.{BackupLine}
use Rattle.backup_file.specs.Header.{IsHead}
use Rattle.backup_file.specs.Line.{IsBackupLine}

-- the lines behind the header, each in the slot of its number
abbrev pub AreLines : (ℕ → List ℕ) → List BackupLine → Type 0
AreLines slots lines = (i : ℕ) (line : BackupLine) → slice_get lines i ≡ Some line
    → IsBackupLine (slots (i + 1)) (i + 1) line

-- The slots are this header, and behind it so many lines.
pub record Stores (slots : ℕ → List ℕ) (head : BackupHead) (lines : List BackupLine) : Type 0 where
  pub header : IsHead (slots 0) head
  pub count : head.lines ≡ length lines
  pub each : AreLines slots lines

-- the present lines that the backup has
abbrev pub lines_in : List BackupLine → List (Dbkey × List ℕ)
lines_in lines = map (λ l. (l.key, l.image)) lines

-- A page within the limit has a place for the line, and its logical area lies in an area file.
pub record HasPage (pages : ℕ) (l : BackupLine) : Type 0 where
  pub page : IsDataPage l.key.page
  pub within : l.key.page ≤ pages
  pub line : l.key.line < lines_of l.class
  pub area : (file : ℕ) × IsOwner file l.key.area

-- lines of one page of an area file agree in logical area and class
abbrev pub SharePages : List BackupLine → Type 0
SharePages lines = (i k : ℕ) (a b : BackupLine) (file : ℕ) → slice_get lines i ≡ Some a → slice_get lines k ≡ Some b
    → IsOwner file a.key.area → IsOwner file b.key.area → a.key.page ≡ b.key.page
    → (a.key.area ≡ b.key.area) × (a.class ≡ b.class)

-- A format and limits that a root may have, and lines in order, none twice, that fit on pages.
pub record IsWhole (head : BackupHead) (lines : List BackupLine) : Type 0 where
  pub format : head.format ≡ 1
  pub limits : AreLimits head.limits
  pub in_order : is_sorted dbkey_order (lines_in lines) ≡ true
  pub on_pages : (i : ℕ) (line : BackupLine) → slice_get lines i ≡ Some line → HasPage head.limits.pages line
  pub share : SharePages lines

-- the file is a whole backup
pub record IsBackup (slots : ℕ → List ℕ) (head : BackupHead) (lines : List BackupLine) : Type 0 where
  pub stores : Stores slots head lines
  pub whole : IsWhole head lines
