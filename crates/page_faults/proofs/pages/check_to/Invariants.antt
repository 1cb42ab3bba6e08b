use Rattle.std.proofs.Common.{IsTrue}
use Rattle.rdb_outside.specs.Disk.{OnlyReads}
use Rattle.page_faults.specs.Listing.{Grows, Lists}
use Rattle.page_faults.proofs.pages.check_to.Given as goal

abbrev pub invariant-loop-slot : goal.invariant-loop-slot
invariant-loop-slot g l =
    let before = g.D.Disk.view l.fn.disk in
    record {
      reads : OnlyReads before (g.D.Disk.view l.disk);
      listed : IsTrue before.tells → Grows (Lists before.content l.asked l.file l.slot) l.fn.faults l.faults;
    }
