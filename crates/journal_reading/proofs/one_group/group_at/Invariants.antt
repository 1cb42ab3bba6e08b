use Rattle.std.proofs.Common.{◌≡◌, [], IsTrue}
use Rattle.journal_scan.specs.Reading.{slot_of}
use Rattle.rdb_outside.specs.Disk.{OnlyReads}
use Rattle.journal_reading.proofs.OneGroup.{HasRead}
use Rattle.journal_reading.proofs.one_group.group_at.Given as goal

abbrev pub invariant-loop-at : goal.invariant-loop-at
invariant-loop-at g l =
    let before = g.D.Disk.view l.fn.disk in
    record {
      reads : OnlyReads before (g.D.Disk.view l.disk);
      read : HasRead before.content l.file (IsTrue before.tells) l.slot l.number l.at l.scan;
      none : l.scan.groups ≡ [];
      place : slot_of l.scan ≡ l.at;
    }
