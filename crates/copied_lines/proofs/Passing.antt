-- A page that adds nay line, or nay line more.
use Rattle.std.proofs.Common.{◌≢◌, ℕ, Bool}
use Rattle.rdb_types.specs.declared.keys.Dbkey.{Dbkey}
use Rattle.rdb_outside.specs.Disk.{Image, View}
use Rattle.rdb_page.specs.declared.head.Head.{Head}
use Rattle.rdb_page.specs.Page.{IsOwner, IsHead, IsUnused, lines_of}
use Rattle.backup_file.specs.Whole.{lines_in}
use Rattle.backup_making.specs.declared.making.Backup.{Backup}
use Rattle.backup_making.specs.Making.{Former}
use Rattle.stable_lines.specs.Progress.{Progress}
use Rattle.used_pages.specs.declared.pages.AreaPage.{AreaPage}
use Rattle.used_pages.specs.Pages.{bytes_at}
use Rattle.copied_lines.specs.Holding.{Holds, on_pages, from_line}
use Rattle.copied_lines.specs.Copying.{Copying}
use Rattle.copied_lines.proofs.OnPages.{unused_ends, another_ends, lines_end}

passes : (former : Former) (image : Image) (now : Progress) (left after : Dbkey → Bool) (v : View) (b : Backup) → (was : Copying former image now left v b) → Holds image after (lines_in was.lines) → Copying former image now after v b
passes former image now left after v b was holds = record { lines = was.lines; at = was.at; holds = holds; on_pages = was.on_pages; facts = was.facts; same = was.same; whole = was.whole }

module _ (former : Former) (image : Image) (now : Progress) (left : AreaPage → Bool) (page : AreaPage) (file : ℕ) (owner : IsOwner file page.area) (v : View) (b : Backup) where
  pub unused_passes : IsUnused (bytes_at image file page.page) → Copying former image now (from_line left page 0) v b → Copying former image now (on_pages left) v b
  unused_passes unused was = passes former image now (from_line left page 0) (on_pages left) v b was (unused_ends image file left page owner (lines_in was.lines) unused was.holds)

  pub another_passes : (head : Head) → IsHead (bytes_at image file page.page) head → head.owner ≢ page.area → Copying former image now (from_line left page 0) v b → Copying former image now (on_pages left) v b
  another_passes head is apart was = passes former image now (from_line left page 0) (on_pages left) v b was (another_ends image file left page owner (lines_in was.lines) head is apart was.holds)

  pub page_passes : (head : Head) → IsHead (bytes_at image file page.page) head → Copying former image now (from_line left page (lines_of head.class)) v b → Copying former image now (on_pages left) v b
  page_passes head is was = passes former image now (from_line left page (lines_of head.class)) (on_pages left) v b was (lines_end image file left page owner (lines_in was.lines) head is was.holds)
