use Rattle.std.proofs.Common.{◌≡◌, ◌≢◌, ◌≤◌, ◌+◌, ◌*◌, IsTrue}
use Rattle.std.specs.BTreeSet.{btree_set_len, contains}
use Rattle.rdb_types.specs.declared.file.FileId.{FileId}
use Rattle.rdb_outside.specs.Disk.{Image, LeavesOnly}
use Rattle.backup_making.specs.Making.{file_of, Former}
use Rattle.stable_lines.specs.Progress.{Progress}
use Rattle.database_opening.specs.Others.{KeepsFile}
use Rattle.used_pages.specs.Pages.{page_order, ArePlaced}
use Rattle.copied_lines.specs.Holding.{on_pages}
use Rattle.copied_lines.specs.Copying.{Copying, IsStopped}
use Rattle.copied_lines.proofs.pages.copy_all.Given as goal

abbrev pub invariant-loop-page : goal.invariant-loop-page
invariant-loop-page g l =
    let before = g.D.Disk.view l.fn.disk in let here = g.D.Disk.view l.disk in
    record {
      told : here.tells ≡ before.tells;
      no_fewer : before.faults ≤ here.faults;
      placed : ArePlaced l.left;
      same : l.backup ≡ record l.fn.backup { lines = l.backup.lines };
      few : l.backup.lines + 4 * btree_set_len l.left ≤ l.fn.backup.lines + 4 * btree_set_len l.fn.pages;
      copied : IsTrue before.tells → (former : Former) (image : Image) (now : Progress) → Copying former image now (on_pages (contains page_order l.fn.pages)) before l.fn.backup
          → Copying former image now (on_pages (contains page_order l.left)) here l.backup;
      stopped : IsTrue before.tells → (former : Former) (image : Image) (now : Progress) → Copying former image now (on_pages (contains page_order l.fn.pages)) before l.fn.backup
          → LeavesOnly before here (IsStopped now l.fn.backup.number);
      others : IsTrue before.tells → (file : FileId) → file ≢ file_of l.fn.backup.number → KeepsFile file before here;
    }

abbrev pub decreases-loop-page : goal.decreases-loop-page
decreases-loop-page g l = btree_set_len l.left
