use Rattle.std.proofs.Common.{◌≡◌, ℕ, List, [], IsTrue}
use Rattle.rdb_outside.specs.Disk.{OnlyReads, Image}
use Rattle.journal_scan.specs.declared.group.Group.{Group}
use Rattle.stable_lines.specs.Journal.{Journal}
use Rattle.rolled_lines.specs.Journals.{follow, laid}
use Rattle.fitted_groups.specs.Claims.{AreFitted}
use Rattle.rmu_recover.specs.Journals.{files_of, AreJournalsIn}
use Rattle.rmu_recover.proofs.Walking.{LaidTo}
use Rattle.rmu_recover.proofs.GroupsFit.{FittedSoFar}
use Rattle.rmu_recover.proofs.fitting.fit_all.Given as goal

abbrev pub invariant-loop-number : goal.invariant-loop-number
invariant-loop-number g l =
    let before = g.D.Disk.view l.fn.disk in
    record {
      reads : OnlyReads before (g.D.Disk.view l.disk);
      at : IsTrue before.tells → (journals : List Journal) (groups : List Group) → AreJournalsIn before.content (files_of l.copies) journals → follow l.last journals ≡ laid groups → LaidTo before.content l.copies groups l.number-index l.behind;
      fitted : IsTrue before.tells → (journals : List Journal) (groups : List Group) → AreJournalsIn before.content (files_of l.copies) journals → follow l.last journals ≡ laid groups
          → (image : Image) (pages : ℕ) → AreFitted image pages [] l.fn.claims → FittedSoFar image pages l.claims before.content l.copies groups l.number-index l.behind;
    }
