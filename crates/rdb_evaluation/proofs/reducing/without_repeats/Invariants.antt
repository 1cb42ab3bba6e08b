use Rattle.std.proofs.Common.{◌≡◌, drop}
use Rattle.std.specs.BTreeSet.{contains}
use Rattle.rdb_types.specs.Order.{row_order}
use Rattle.rdb_meaning.specs.Selecting.{without_repeats}
use Rattle.rdo_arithmetic.specs.declared.reduced.ReducedValues.{ReducedValues}
use Rattle.rdo_arithmetic.specs.Reducing.{reduced_row, read_alike}
use Rattle.rdb_evaluation.proofs.Rebinding.{Rebinds}
use Rattle.rdo_arithmetic.proofs.Repeats.{seen_in, kept_then}
use Rattle.rdb_evaluation.proofs.reducing.without_repeats.Given as goal

abbrev pub invariant-loop-tuple : goal.invariant-loop-tuple
invariant-loop-tuple l = record {
  rebinds : Rebinds l.ranges l.scope l.bound.items;
  seen : (q : ReducedValues) → contains (λ (a b : ReducedValues). row_order a.values b.values) l.seen q ≡ seen_in (reduced_row l.clauses l.ranges l.tables l.scope) l.kept q.values;
  whole : without_repeats (read_alike l.clauses l.ranges l.tables l.scope) l.tuples
      ≡ kept_then (reduced_row l.clauses l.ranges l.tables l.scope) l.kept (drop l.tuple-index l.tuples);
}
