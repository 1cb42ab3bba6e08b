use Rattle.std.proofs.Common.{IsTrue}
use Rattle.rdb_outside.specs.Disk.{OnlyReads}
use Rattle.journal_passing.proofs.PassedSlots.{PassedTo}
use Rattle.journal_passing.proofs.group.pass_group.Given as goal

abbrev pub invariant-loop-at : goal.invariant-loop-at
invariant-loop-at g l =
    let before = g.D.Disk.view l.fn.disk in
    record {
      reads : OnlyReads before (g.D.Disk.view l.disk);
      passed : PassedTo before.content l.file (IsTrue before.tells) l.slot l.number l.at l.passing;
    }
