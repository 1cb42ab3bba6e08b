use Rattle.std.proofs.Common.{◌≡◌, ◌+◌, ◌-◌, ◌^◌, ◌≤◌, IsTrue}
use Rattle.rdb_outside.specs.Disk.{OnlyReads}
use Rattle.stable_lines.specs.Journal.{Journal}
use Rattle.laid_groups.specs.Passing.{IsJournalIn}
use Rattle.laid_groups.proofs.Walking.{ReachedUpTo}
use Rattle.laid_groups.proofs.passing.pass_groups.Given as goal

abbrev pub decreases-loop-group : goal.decreases-loop-group
decreases-loop-group g l = (l.end + 1) - l.slot

abbrev pub invariant-loop-group : goal.invariant-loop-group
invariant-loop-group g l =
    let before = g.D.Disk.view l.fn.disk in
    record {
      reads : OnlyReads before (g.D.Disk.view l.disk);
      few : l.number ≤ l.first + l.slot;
      grows : l.at.ceiling ≤ l.ceiling;
      below : l.ceiling ≤ 2 ^ 62;
      reached : IsTrue before.tells → (journal : Journal) → IsJournalIn before.content l.file journal → l.first ≡ journal.first → ReachedUpTo journal l.at l.slot l.number l.ceiling;
    }
