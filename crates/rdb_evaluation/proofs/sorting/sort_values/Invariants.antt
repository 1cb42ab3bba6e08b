use Rattle.std.proofs.Common.{◌≡◌, ◌++◌, drop}
use Rattle.rdb_meaning.specs.Selecting.{sort_keys}
use Rattle.rdb_evaluation.specs.Sorting.{key_values, value_read}
use Rattle.rdb_evaluation.proofs.sorting.sort_values.Given as goal

abbrev pub invariant-loop-clause : goal.invariant-loop-clause
invariant-loop-clause l =
    key_values (sort_keys l.clauses) (value_read l.tables l.scope)
    ≡ l.values ++ key_values (sort_keys (drop l.clause-index l.clauses)) (value_read l.tables l.scope)
