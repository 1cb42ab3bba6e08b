use Rattle.std.proofs.Common.{◌≡◌, drop}
use Rattle.std.specs.BTreeSet.{contains}
use Rattle.rdb_types.specs.Order.{row_order}
use Rattle.rdb_meaning.specs.Selecting.{without_repeats}
use Rattle.rdo_arithmetic.specs.declared.reduced.ReducedValues.{ReducedValues}
use Rattle.rdo_arithmetic.proofs.Repeats.{seen_in, kept_then}
use Rattle.rdo_select.specs.Ordered.{reduced_values, found_alike}
use Rattle.rdo_select.proofs.reducing.without_repeats.Given as goal

abbrev pub invariant-loop-tuple : goal.invariant-loop-tuple
invariant-loop-tuple l = record {
  seen : (q : ReducedValues) → contains (λ (a b : ReducedValues). row_order a.values b.values) l.seen q ≡ seen_in (reduced_values l.clauses) l.kept q.values;
  whole : without_repeats (found_alike l.clauses) l.found ≡ kept_then (reduced_values l.clauses) l.kept (drop l.tuple-index l.found);
}
