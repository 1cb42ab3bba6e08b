use Rattle.std.proofs.Common.{◌≡◌, ◌++◌, drop}
use Rattle.rdb_meaning.specs.Selecting.{sort_keys}
use Rattle.rdb_evaluation.specs.Sorting.{directions}
use Rattle.rdb_evaluation.proofs.sorting.directions.Given as goal

abbrev pub invariant-loop-clause : goal.invariant-loop-clause
invariant-loop-clause l = directions (sort_keys l.clauses) ≡ l.directions ++ directions (sort_keys (drop l.clause-index l.clauses))
