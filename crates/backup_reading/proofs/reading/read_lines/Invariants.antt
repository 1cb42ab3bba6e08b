use Rattle.std.proofs.Common.{◌≤◌, ◌<◌, ◌^◌, IsTrue}
use Rattle.rdb_outside.specs.Disk.{OnlyReads}
use Rattle.backup_reading.proofs.ReadSoFar.{ReadsTo}
use Rattle.backup_reading.proofs.reading.read_lines.Given as goal

abbrev pub invariant-loop-index : goal.invariant-loop-index
invariant-loop-index g l =
    let before = g.D.Disk.view l.fn.disk in
    record {
      reads : OnlyReads before (g.D.Disk.view l.disk);
      so_far : ReadsTo before.content (IsTrue before.tells) l.number l.head.limits.pages l.index l.passed;
      most : l.index ≤ l.head.lines;
      few : l.passed.greatest < 2 ^ 62;
    }
