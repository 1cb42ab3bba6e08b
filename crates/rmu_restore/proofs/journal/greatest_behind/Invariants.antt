use Rattle.std.proofs.Common.{◌+◌, ◌-◌, ◌^◌, ◌≤◌, ◌<◌, IsTrue}
use Rattle.rdb_outside.specs.Disk.{OnlyReads}
use Rattle.rmu_restore.proofs.Greatest.{PassedUpTo}
use Rattle.rmu_restore.proofs.journal.greatest_behind.Given as goal

abbrev pub decreases-loop-group : goal.decreases-loop-group
decreases-loop-group g l = (l.end + 1) - l.slot

abbrev pub invariant-loop-group : goal.invariant-loop-group
invariant-loop-group g l =
    let before = g.D.Disk.view l.fn.disk in
    record {
      reads : OnlyReads before (g.D.Disk.view l.disk);
      passed : PassedUpTo before.content (IsTrue before.tells) l.first l.slot l.number l.greatest;
      few : l.number ≤ l.first + l.slot;
      below : l.greatest < 2 ^ 62;
    }
