use Rattle.std.proofs.Common.{◌≡◌, ◌≢◌, ◌≤◌, Bool, IsTrue}
use Rattle.rdb_types.specs.declared.file.FileId.{FileId}
use Rattle.rdb_outside.specs.Disk.{Image, LeavesOnly}
use Rattle.backup_making.specs.Making.{file_of, Former}
use Rattle.stable_lines.specs.Progress.{Progress}
use Rattle.database_opening.specs.Others.{KeepsFile}
use Rattle.used_pages.specs.declared.pages.AreaPage.{AreaPage}
use Rattle.used_pages.specs.Pages.{bytes_at}
use Rattle.copied_lines.specs.Holding.{from_line, AreBehind}
use Rattle.copied_lines.specs.Copying.{page_named, Copying, IsGrown, IsStopped}
use Rattle.copied_lines.proofs.copying.copy_lines.Given as goal

abbrev pub invariant-loop-line : goal.invariant-loop-line
invariant-loop-line g l =
    let before = g.D.Disk.view l.fn.disk in let here = g.D.Disk.view l.disk in
    record {
      told : here.tells ≡ before.tells;
      no_fewer : before.faults ≤ here.faults;
      grown : IsGrown l.fn.backup l.backup l.line;
      copied : IsTrue before.tells → (former : Former) (image : Image) (now : Progress) (left : AreaPage → Bool) → l.page ≡ bytes_at image l.file l.head.page → AreBehind (page_named l.head) left
          → Copying former image now (from_line left (page_named l.head) 0) before l.fn.backup → Copying former image now (from_line left (page_named l.head) l.line) here l.backup;
      stopped : IsTrue before.tells → (former : Former) (image : Image) (now : Progress) (left : AreaPage → Bool) → l.page ≡ bytes_at image l.file l.head.page → AreBehind (page_named l.head) left
          → Copying former image now (from_line left (page_named l.head) 0) before l.fn.backup → LeavesOnly before here (IsStopped now l.fn.backup.number);
      others : IsTrue before.tells → (file : FileId) → file ≢ file_of l.fn.backup.number → KeepsFile file before here;
    }
