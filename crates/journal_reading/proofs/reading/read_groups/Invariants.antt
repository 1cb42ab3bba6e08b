use Rattle.std.proofs.Common.{◌≡◌, ◌-◌, IsTrue}
use Rattle.journal_scan.specs.Reading.{begins_at, read_all, slot_of}
use Rattle.rdb_outside.specs.Disk.{OnlyReads}
use Rattle.journal_reading.specs.Journal.{standing}
use Rattle.journal_reading.proofs.reading.read_groups.Given as goal

abbrev pub invariant-loop-number : goal.invariant-loop-number
invariant-loop-number g l =
    let before = g.D.Disk.view l.fn.disk in
    record {
      reads : OnlyReads before (g.D.Disk.view l.disk);
      read : IsTrue before.tells → l.scan ≡ read_all (begins_at 1 l.first) (standing before.content l.file 1 (l.number - 1));
      place : slot_of l.scan ≡ l.number;
    }
