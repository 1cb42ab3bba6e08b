use Rattle.std.proofs.Common.{◌≡◌, List, IsTrue}
use Rattle.journal_scan.specs.declared.group.Group.{Group}
use Rattle.guarded_root.specs.Guarded.{RunsBehind}
use Rattle.guarded_lines.specs.Laying.{IsArea}
use Rattle.stable_lines.specs.Journal.{Journal}
use Rattle.rolled_lines.specs.Journals.{follow, laid}
use Rattle.fitted_groups.specs.laid_groups.Forward.{Forward, FitAll, IsReady, KeepsReady}
use Rattle.rmu_recover.specs.Journals.{files_of, AreJournalsIn}
use Rattle.rmu_recover.proofs.Walking.{LaidTo, LaidSoFar}
use Rattle.rmu_recover.proofs.journals.lay_all.Given as goal

abbrev pub invariant-loop-number : goal.invariant-loop-number
invariant-loop-number g l =
    let before = g.D.Disk.view l.fn.disk in let now = g.D.Disk.view l.disk in
    record {
      runs : RunsBehind IsArea before now;
      at : IsTrue before.tells → (journals : List Journal) (groups : List Group) → AreJournalsIn before.content (files_of l.copies) journals → follow l.last journals ≡ laid groups → LaidTo before.content l.copies groups l.number-index l.behind;
      ready : IsTrue before.tells → (forward : Forward) (journals : List Journal) (groups : List Group) → AreJournalsIn before.content (files_of l.copies) journals → follow l.last journals ≡ laid groups → FitAll forward groups → KeepsReady forward before now;
      laid : IsTrue before.tells → (forward : Forward) (journals : List Journal) (groups : List Group) → IsReady forward before → AreJournalsIn before.content (files_of l.copies) journals → follow l.last journals ≡ laid groups → FitAll forward groups
          → LaidSoFar forward before.content l.copies groups l.number-index l.behind before.content now.content;
    }
