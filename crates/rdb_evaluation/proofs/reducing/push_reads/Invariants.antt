use Rattle.std.proofs.Common.{◌≡◌, ◌++◌, map, take}
use Rattle.rdb_evaluation.specs.Sorting.{value_read}
use Rattle.rdb_evaluation.proofs.reducing.push_reads.Given as goal

abbrev pub invariant-loop-reference : goal.invariant-loop-reference
invariant-loop-reference l = l.values ≡ l.initial.values ++ map (value_read l.tables l.scope) (take l.reference-index l.references)
