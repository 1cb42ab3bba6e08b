use Rattle.std.proofs.Common.{◌≡◌, ◌∙◌, sym, ap, refl, not, cond, true}
use Rattle.std.specs.List.{list_any}
use Rattle.std.specs.Ordering.{is_eq}
use Rattle.rdb_types.specs.Order.{row_order}
use Rattle.rdo_arithmetic.specs.declared.reduced.ReducedValues.{ReducedValues}
use Rattle.rdo_arithmetic.proofs.Repeats.{seen_in, kept_none, kept_more, kept_all, set_more}
use Rattle.rdo_select.specs.Ordered.{reduced_row, reduced_values}
use Rattle.rdo_select.proofs.reducing.without_repeats.Goals as goal

pub loop-tuple-init : goal.loop-tuple-init
loop-tuple-init c = record {
  seen = λ q. ap (list_any (λ (k : ReducedValues). is_eq (row_order q.values k.values))) c.new-seen.ensures.empty
      ∙ sym (ap (λ ks. seen_in (reduced_values c.args.clauses.now) ks q.values) c.new-kept.ensures);
  whole = kept_none (reduced_values c.args.clauses.now) _ c.new-kept.result c.args.found.now c.new-kept.ensures refl;
}

pub loop-tuple-preserved : goal.loop-tuple-preserved
loop-tuple-preserved c =
    let inv = c.loop-tuple.invariant in
    let i = c.loop-tuple.tuple-index in
    let tuple = c.tuple-item.result in
    let row = reduced_values c.args.clauses.now in
    let values : c.in_ok-values.values ≡ row tuple = c.in_ok-values.ensures ∙ ap (reduced_row c.args.clauses.now) c.as_slice.ensures in
    let new : c.in_ok-first.first ≡ not (seen_in row c.loop-tuple.kept (row tuple)) =
    c.in_ok-first.ensures.added ∙ ap not (inv.seen (record { values = c.in_ok-values.values }) ∙ ap (seen_in row c.loop-tuple.kept) values) in
    record {
      seen = λ q. set_more row c.loop-tuple.kept c.push_if.new.kept tuple q.values c.in_ok-first.first _ new c.in_ok-push_if.ensures
          (c.in_ok-first.ensures.updates.0 q ∙ (λ j. cond (is_eq (row_order (values j) q.values)) true (inv.seen q j)));
      whole = kept_more row c.args.found.now i tuple _ c.loop-tuple.kept c.push_if.new.kept c.in_ok-first.first c.loop-tuple-test.true c.tuple-item.is inv.whole new c.in_ok-push_if.ensures;
    }

pub returns : goal.returns
returns c =
    kept_all (reduced_values c.args.clauses.now) c.args.found.now c.loop-tuple.tuple-index _ c.loop-tuple.kept c.loop-tuple-test.false c.loop-tuple.invariant.whole
