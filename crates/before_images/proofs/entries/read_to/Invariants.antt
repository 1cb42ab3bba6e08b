use Rattle.std.proofs.Common.{IsTrue}
use Rattle.rdb_outside.specs.Disk.{OnlyReads}
use Rattle.before_images.proofs.Reading.{HeldTo}
use Rattle.before_images.proofs.entries.read_to.Given as goal

abbrev pub invariant-loop-index : goal.invariant-loop-index
invariant-loop-index g l =
    let before = g.D.Disk.view l.fn.disk in
    record {
      reads : OnlyReads before (g.D.Disk.view l.disk);
      held : IsTrue before.tells → HeldTo before.content l.member l.tsn l.index l.held;
    }
