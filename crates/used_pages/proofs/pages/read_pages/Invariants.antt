use Rattle.std.proofs.Common.{◌+◌, ◌≤◌, IsTrue}
use Rattle.std.specs.BTreeSet.{btree_set_len}
use Rattle.rdb_outside.specs.Disk.{OnlyReads}
use Rattle.used_pages.specs.declared.pages.AreaPage.{AreaPage}
use Rattle.used_pages.specs.Pages.{has, ArePlaced, HasUsedTo}
use Rattle.used_pages.proofs.pages.read_pages.Given as goal

abbrev pub invariant-loop-slot : goal.invariant-loop-slot
invariant-loop-slot g l =
    let before = g.D.Disk.view l.fn.disk in
    record {
      reads : OnlyReads before (g.D.Disk.view l.disk);
      used : IsTrue before.tells → HasUsedTo before.content l.file l.slot l.pages;
      kept : (other : AreaPage) → has l.fn.pages other → has l.pages other;
      placed : ArePlaced l.fn.pages → ArePlaced l.pages;
      few : btree_set_len l.pages ≤ btree_set_len l.fn.pages + l.slot;
    }
