use Rattle.std.proofs.Common.{IsTrue}
use Rattle.rdb_outside.specs.Disk.{OnlyReads}
use Rattle.line_opening.specs.Headers.{AreClosed}
use Rattle.line_opening.proofs.closing.close_next.Given as goal

abbrev pub invariant-loop-member : goal.invariant-loop-member
invariant-loop-member g l =
    let before = g.D.Disk.view l.fn.disk in
    record {
      reads : OnlyReads before (g.D.Disk.view l.disk);
      closed : IsTrue before.tells → AreClosed before.content l.from → AreClosed before.content l.member;
    }
