use Rattle.std.proofs.Common.{◌+◌, ◌-◌, ◌≤◌, IsTrue}
use Rattle.rdb_outside.specs.Disk.{OnlyReads}
use Rattle.line_opening.proofs.Passed.{PassedTo}
use Rattle.line_opening.proofs.groups.pass_groups.Given as goal

abbrev pub decreases-loop-group : goal.decreases-loop-group
decreases-loop-group g l = (l.end + 1) - l.next.slot

abbrev pub invariant-loop-group : goal.invariant-loop-group
invariant-loop-group g l =
    let before = g.D.Disk.view l.fn.disk in
    record {
      reads : OnlyReads before (g.D.Disk.view l.disk);
      passed : PassedTo before.content (IsTrue before.tells) l.first l.next.slot l.next.number l.fn.numbers l.numbers;
      few : l.next.number ≤ l.first + l.next.slot;
    }
