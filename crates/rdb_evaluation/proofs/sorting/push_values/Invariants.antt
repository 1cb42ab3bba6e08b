use Rattle.std.proofs.Common.{◌≡◌, ◌++◌, take}
use Rattle.rdb_evaluation.specs.Sorting.{key_values, value_read}
use Rattle.rdb_evaluation.proofs.sorting.push_values.Given as goal

abbrev pub invariant-loop-key : goal.invariant-loop-key
invariant-loop-key l = l.values ≡ l.initial.values ++ key_values (take l.key-index l.keys) (value_read l.tables l.scope)
