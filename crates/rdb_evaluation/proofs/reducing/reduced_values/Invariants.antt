use Rattle.std.proofs.Common.{◌≡◌, ◌++◌, map, drop}
use Rattle.rdb_meaning.specs.Selecting.{reduced_fields}
use Rattle.rdb_evaluation.specs.Sorting.{value_read}
use Rattle.rdb_evaluation.proofs.reducing.reduced_values.Given as goal

abbrev pub invariant-loop-clause : goal.invariant-loop-clause
invariant-loop-clause l =
    map (value_read l.tables l.scope) (reduced_fields l.clauses)
    ≡ l.values ++ map (value_read l.tables l.scope) (reduced_fields (drop l.clause-index l.clauses))
