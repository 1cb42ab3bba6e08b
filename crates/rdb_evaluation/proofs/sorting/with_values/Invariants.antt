use Rattle.std.proofs.Common.{◌≡◌, map, take}
use Rattle.rdb_evaluation.specs.Sorting.{ranked_tuple}
use Rattle.rdb_evaluation.proofs.Rebinding.{Rebinds}
use Rattle.rdb_evaluation.proofs.sorting.with_values.Given as goal

abbrev pub invariant-loop-tuple : goal.invariant-loop-tuple
invariant-loop-tuple l = record {
  rebinds : Rebinds l.ranges l.scope l.bound.items;
  whole : l.ranked.items ≡ map (ranked_tuple l.clauses l.ranges l.tables l.scope) (take l.tuple-index l.tuples);
}
