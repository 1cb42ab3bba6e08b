use Rattle.std.proofs.Common.{◌≡◌, map}
use Rattle.rdb_evaluation.specs.declared.sorting.Ranked.{Ranked}
use Rattle.rdb_evaluation.proofs.sorting.without_values.Given as goal

abbrev pub invariant-loop-tuple : goal.invariant-loop-tuple
invariant-loop-tuple l = l.tuples ≡ map (λ (r : Ranked). r.tuple) l.yielded
