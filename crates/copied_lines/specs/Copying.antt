-- A backup while it gets the lines of a database that nobody has open.
use Rattle.std.specs.Prelude.{ℕ, ◌+◌, ◌≤◌, ◌<◌, ◌≡◌, Bool, List, slice_get, Some}
use Rattle.rdb_types.specs.declared.keys.Dbkey.{Dbkey}
use Rattle.rdb_types.specs.declared.keys.Line.{Line}
use Rattle.rdb_outside.specs.Disk.{Image, View, Pending}
use Rattle.rdb_page.specs.declared.head.Head.{Head}
use Rattle.rdb_page.specs.Lines.{IsLine}
use Rattle.rdb_page.specs.Page.{StandsAs, lines_of}
use Rattle.area_files.specs.Areas.{IsDataPage}
use Rattle.backup_file.specs.declared.line.BackupLine.{BackupLine}
use Rattle.backup_file.specs.Whole.{lines_in}
use Rattle.backup_making.specs.declared.making.Backup.{Backup}
use Rattle.backup_making.specs.Making.{file_of, Former, IsAt, StoresNothing, slots_of}
use Rattle.stable_lines.specs.Slots.{area_file}
use Rattle.stable_lines.specs.Progress.{Progress}
use Rattle.stable_lines.specs.Facts.{Facts, StandsAs as ImageStandsAs}
use Rattle.used_pages.specs.declared.pages.AreaPage.{AreaPage}
use Rattle.used_pages.specs.Pages.{bytes_at, AreWhole}
use Rattle.copied_lines.specs.Holding.{Holds}

-- the page that a head says
abbrev pub page_named : Head → AreaPage
page_named head = record { area = head.owner; page = head.page }

-- the line of this number on the page of the image with this head
pub record IsLineAt (image : Image) (file : ℕ) (head : Head) (line : ℕ) (stood : Line) : Type 0 where
  pub stands : StandsAs (bytes_at image file head.page) file head.page head
  pub is_data : IsDataPage head.page
  pub within : line < lines_of head.class
  pub is : IsLine (bytes_at image file head.page) head.class line stood

-- the line lies on a used page of the image, of its area and its class
pub record IsOnPage (image : Image) (l : BackupLine) : Type 0 where
  pub file : ℕ
  pub is_data : IsDataPage l.key.page
  pub head : Head
  pub stands : StandsAs (bytes_at image file l.key.page) file l.key.page head
  pub area : head.owner ≡ l.key.area
  pub class : head.class ≡ l.class
  pub line : l.key.line < lines_of head.class

abbrev pub AreOnPages : Image → List BackupLine → Type 0
AreOnPages image lines = (i : ℕ) (line : BackupLine) → slice_get lines i ≡ Some line → IsOnPage image line

-- the pages of the area files are the same
abbrev pub SameAreas : Image → Image → Type 0
SameAreas old new = (file slot : ℕ) → new (area_file file) slot ≡ old (area_file file) slot

-- The backup has the present lines of the image but for those that are left, and the database is as it was.
pub record Copying (former : Former) (image : Image) (now : Progress) (left : Dbkey → Bool) (v : View) (b : Backup) : Type 0 where
  pub lines : List BackupLine
  pub at : IsAt former v b lines
  pub holds : Holds image left (lines_in lines)
  pub on_pages : AreOnPages image lines
  pub facts : Facts (Pending v) now
  pub same : SameAreas image v.content
  pub whole : AreWhole image

-- so many lines more, at most, and all else the same
pub record IsGrown (old new : Backup) (count : ℕ) : Type 0 where
  pub same : new ≡ record old { lines = new.lines }
  pub few : new.lines ≤ old.lines + count

-- What a crash leaves meanwhile: the database as it was, and no backup of this number.
pub record IsStopped (now : Progress) (number : ℕ) (image : Image) : Type 0 where
  pub stands : ImageStandsAs now image
  pub none : StoresNothing (slots_of image (file_of number))
