use Rattle.std.proofs.Common.{◌≡◌, ◌++◌, drop}
use Rattle.rdb_meaning.specs.Evaluation.{bind_tuple, bindings_of}
use Rattle.rdb_tables.proofs.scopes.scope_with_tuple.Given as goal

abbrev pub invariant-loop-at : goal.invariant-loop-at
invariant-loop-at l = bind_tuple l.ranges l.keys l.scope ≡ l.bound ++ bindings_of (drop l.at l.ranges) (drop l.at l.keys)
