-- Each step of an opening brings its end nearer.
use Rattle.std.proofs.Common.{◌≡◌, ℕ, ◌+◌, ◌<◌, List, length, drop, get_or, arith}
use Rattle.std.proofs.lemmas.List.Sums.{sum_by-drop_more}
use Rattle.std.specs.List.{sum}
use Rattle.database_opening.specs.Stages.{steps_left}
use Rattle.database_opening.specs.declared.stages.OpeningStage.TheVariants.{Undoing, Restoring}

pub nearer_member : (counts : List ℕ) (member entries : ℕ) → length counts ≡ 16 → member < 16 → steps_left counts (Undoing (member + 1) (get_or counts member 0)) < steps_left counts (Undoing member entries)
nearer_member counts member entries long less =
    let front : sum (drop member counts) ≡ get_or counts member 0 + sum (drop (member + 1) counts) = sum_by-drop_more (λ x. x) counts member 0 (omega (arith, long, less)) in
    omega (arith, front, less)

pub nearer_restoring : (counts : List ℕ) (member entries : ℕ) → steps_left counts Restoring < steps_left counts (Undoing member entries)
nearer_restoring counts member entries = omega arith
