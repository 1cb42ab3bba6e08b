use Rattle.std.proofs.Common.{◌≡◌, drop}
use Rattle.rdb_evaluation.specs.Sorting.{directed_order}
use Rattle.rdb_evaluation.proofs.sorting.directed.Given as goal

abbrev pub invariant-loop-at : goal.invariant-loop-at
invariant-loop-at l = directed_order l.directions l.a l.b ≡ directed_order (drop l.at l.directions) (drop l.at l.a) (drop l.at l.b)
