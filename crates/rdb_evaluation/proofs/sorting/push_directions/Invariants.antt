use Rattle.std.proofs.Common.{◌≡◌, ◌++◌, take}
use Rattle.rdb_evaluation.specs.Sorting.{directions}
use Rattle.rdb_evaluation.proofs.sorting.push_directions.Given as goal

abbrev pub invariant-loop-key : goal.invariant-loop-key
invariant-loop-key l = l.directions ≡ l.initial.directions ++ directions (take l.key-index l.keys)
