use Rattle.std.proofs.Common.{List, ◌^◌, ◌≤◌, ◌<◌, IsTrue}
use Rattle.rdb_outside.specs.Disk.{OnlyReads}
use Rattle.stable_lines.specs.Journal.{Journal}
use Rattle.rmu_recover.specs.Journals.{files_of, AreJournalsIn}
use Rattle.rmu_recover.proofs.Walking.{PassedTo}
use Rattle.rmu_recover.proofs.journals.pass_all.Given as goal

abbrev pub invariant-loop-number : goal.invariant-loop-number
invariant-loop-number g l =
    let before = g.D.Disk.view l.fn.disk in
    record {
      reads : OnlyReads before (g.D.Disk.view l.disk);
      grows : l.fn.at.last ≤ l.reached.last;
      last : l.reached.last < 2 ^ 63;
      above : l.fn.at.ceiling ≤ l.reached.ceiling;
      ceiling : l.reached.ceiling ≤ 2 ^ 62;
      passed : IsTrue before.tells → (journals : List Journal) → AreJournalsIn before.content (files_of l.copies) journals → PassedTo before.content l.copies l.fn.at journals l.number-index l.reached;
    }
