-- The best of values, taken from the last to the first.
use Rattle.std.proofs.Common.{◌≡◌, Bool, List, [], ◌∷◌, ◌++◌, refl, ap}
use Rattle.std.specs.declared.cmp.Ordering.{Ordering}
use Rattle.rdb_types.specs.declared.values.Scaled.{Scaled}
use Rattle.rdb_meaning.specs.Numbers.{absent}
use Rattle.rdb_meaning.specs.Comparison.{order_of}
use Rattle.rdb_meaning.specs.Evaluation.{better, extreme}

abbrev pub best_of_two : (Ordering → Bool) → Scaled → Scaled → Scaled
best_of_two wins best v = better wins best v (order_of best v)

-- the best of the values, where the best of those behind them is known
abbrev pub best_before : (Ordering → Bool) → List Scaled → Scaled → Scaled
best_before wins [] best = best
best_before wins (v ∷ vs) best = best_of_two wins (best_before wins vs best) v

pub best_before-push : (wins : Ordering → Bool) (vs : List Scaled) (v best : Scaled) → best_before wins (vs ++ v ∷ []) best ≡ best_before wins vs (best_of_two wins best v)
best_before-push wins [] v best = refl
best_before-push wins (w ∷ vs) v best = ap (λ b. best_of_two wins b w) (best_before-push wins vs v best)

pub best_before-absent : (wins : Ordering → Bool) (vs : List Scaled) → best_before wins vs absent ≡ extreme wins vs
best_before-absent wins [] = refl
best_before-absent wins (v ∷ vs) = ap (λ b. best_of_two wins b v) (best_before-absent wins vs)

pub ruleset bests = (best_before-push, best_before-absent)
