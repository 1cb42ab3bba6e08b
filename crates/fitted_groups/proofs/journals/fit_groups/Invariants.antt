use Rattle.std.proofs.Common.{◌≡◌, ◌+◌, ◌-◌, ◌≤◌, ℕ, List, IsTrue}
use Rattle.rdb_outside.specs.Disk.{OnlyReads, Image}
use Rattle.aij_journal.specs.declared.part.GroupLine.{GroupLine}
use Rattle.stable_lines.specs.Journal.{Journal}
use Rattle.laid_groups.specs.Passing.{IsJournalIn}
use Rattle.laid_groups.proofs.Walking.{AtGroup}
use Rattle.fitted_groups.specs.Claims.{AreFitted}
use Rattle.fitted_groups.proofs.Looking.{FittedUpTo}
use Rattle.fitted_groups.proofs.journals.fit_groups.Given as goal

abbrev pub decreases-loop-group : goal.decreases-loop-group
decreases-loop-group g l = (l.end + 1) - l.slot

abbrev pub invariant-loop-group : goal.invariant-loop-group
invariant-loop-group g l =
    let before = g.D.Disk.view l.fn.disk in
    record {
      reads : OnlyReads before (g.D.Disk.view l.disk);
      few : l.number ≤ l.first + l.slot;
      at : IsTrue before.tells → (journal : Journal) → IsJournalIn before.content l.file journal → l.first ≡ journal.first → AtGroup journal l.slot l.number;
      fitted : IsTrue before.tells → (journal : Journal) → IsJournalIn before.content l.file journal → l.first ≡ journal.first → (image : Image) (pages : ℕ) (lines : List GroupLine) → AreFitted image pages lines l.fn.claims → FittedUpTo image pages lines l.claims journal l.last l.slot l.number;
    }
