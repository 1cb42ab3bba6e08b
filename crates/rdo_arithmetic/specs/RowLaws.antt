-- The laws that the comparisons of `ReducedValues` owe.
use Rattle.std.specs.Prelude.{Some}
use Rattle.std.proofs.Common.{refl}
use Rattle.std.proofs.lemmas.Cmp.{on_total, eq_by_cmp_equiv}
use Rattle.std.specs.Cmp.{IsTotalOrder, IsEquivalence, IsPartialEquivalence, IsPartialOrder, partial_equiv_from_equiv, partial_order_from_agreeing_total}
use Rattle.std.specs.Ordering.{is_eq}
use Rattle.rdb_types.specs.Order.{row_order}
use Rattle.rdb_types.specs.OrderLaws.{row_total}
use Rattle.rdo_arithmetic.specs.declared.reduced.ReducedValues.{ReducedValues}

pub reduced_total : IsTotalOrder (λ (a b : ReducedValues). row_order a.values b.values)
reduced_total = on_total (λ (r : ReducedValues). r.values) row_total

pub row_equivalence : IsEquivalence (λ (a b : ReducedValues). is_eq (row_order a.values b.values))
row_equivalence = eq_by_cmp_equiv reduced_total

pub row_partial_equivalence : IsPartialEquivalence (λ (a b : ReducedValues). is_eq (row_order a.values b.values))
row_partial_equivalence = partial_equiv_from_equiv row_equivalence

pub row_partial_order : IsPartialOrder (λ (a b : ReducedValues). is_eq (row_order a.values b.values)) (λ a b. Some (row_order a.values b.values))
row_partial_order = partial_order_from_agreeing_total (λ (a b : ReducedValues). row_order a.values b.values) reduced_total (λ a b. refl) (λ a b. refl)
