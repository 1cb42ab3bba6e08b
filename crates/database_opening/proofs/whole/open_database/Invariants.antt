use Rattle.std.proofs.Common.{◌≡◌, ◌≤◌, ℕ, IsTrue}
use Rattle.rdb_types.specs.declared.file.FileId.{FileId}
use Rattle.rdb_outside.specs.Disk.{Pending, LeavesOnly}
use Rattle.line_view.specs.Knowledge.{Lines}
use Rattle.line_opening.specs.stable_lines.Journal.{Journal}
use Rattle.line_opening.specs.stable_lines.Kept.{Kept}
use Rattle.line_opening.specs.line_moves.Classes.{HaveTheirClasses, IsClassed}
use Rattle.database_opening.specs.Others.{IsOther, KeepsFile}
use Rattle.database_opening.specs.Untouched.{KeepsRootAndSpaces}
use Rattle.database_opening.specs.Stages.{OpeningFacts, IsStage, steps_left}
use Rattle.database_opening.proofs.EachMoment.{IsLeft}
use Rattle.database_opening.proofs.whole.open_database.Given as goal

abbrev pub invariant-steps : goal.invariant-steps
invariant-steps g l =
    let before = g.D.Disk.view l.fn.disk in let now = g.D.Disk.view l.disk in
    record {
      told : now.tells ≡ before.tells;
      no_fewer : before.faults ≤ now.faults;
      stage : IsStage l.stage;
      facts : IsTrue before.tells → (classes : ℕ → ℕ) (lines : Lines) (journal : Journal) → Kept classes lines journal before.content → OpeningFacts classes lines journal l.stage now l.opening.found;
      classes : IsTrue before.tells → (classes : ℕ → ℕ) (lines : Lines) (journal : Journal) → Kept classes lines journal before.content → (by_area : ℕ → ℕ) → IsClassed by_area before.content → HaveTheirClasses by_area (Pending now);
      untouched : IsTrue before.tells → KeepsRootAndSpaces before.content now.content;
      others : IsTrue before.tells → (file : FileId) → IsOther file → KeepsFile file before now;
      leaves : IsTrue before.tells → (classes : ℕ → ℕ) (lines : Lines) (journal : Journal) → Kept classes lines journal before.content → LeavesOnly before now (IsLeft classes lines journal before);
    }

abbrev pub decreases-steps : goal.decreases-steps
decreases-steps g l = steps_left l.opening.found.counts l.stage
