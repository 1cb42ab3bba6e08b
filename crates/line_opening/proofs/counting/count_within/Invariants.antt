use Rattle.std.proofs.Common.{◌≡◌, ◌+◌, IsTrue}
use Rattle.rdb_outside.specs.Disk.{OnlyReads}
use Rattle.line_opening.proofs.Counted.{StandTo}
use Rattle.line_opening.proofs.counting.count_within.Given as goal

abbrev pub invariant-loop-index : goal.invariant-loop-index
invariant-loop-index g l =
    let before = g.D.Disk.view l.fn.disk in
    record {
      reads : OnlyReads before (g.D.Disk.view l.disk);
      stand : IsTrue before.tells → StandTo before.content l.member l.tsn l.count;
      next : l.count + 1 ≡ l.index;
    }
