use Rattle.std.proofs.Common.{◌≡◌, ◌+◌, ◌∙◌, sym, ap, subst, refl, length, map, not, cond, true}
use Rattle.std.specs.List.{list_any}
use Rattle.std.specs.Ordering.{is_eq}
use Rattle.rdo_arithmetic.specs.declared.reduced.ReducedValues.{ReducedValues}
use Rattle.rdb_types.specs.Order.{row_order}
use Rattle.rdb_meaning.specs.Evaluation.{bind_tuple}
use Rattle.rdb_meaning.specs.Selecting.{reduced_fields}
use Rattle.rdb_evaluation.specs.Crossing.{rebound}
use Rattle.rdo_arithmetic.specs.Reducing.{kept_if, reduced_row}
use Rattle.rdb_evaluation.specs.Sorting.{value_read}
use Rattle.rdb_evaluation.proofs.Rebinding.{Rebinds, rebinds_sources, rebinds_more}
use Rattle.rdo_arithmetic.proofs.Repeats.{seen_in, kept_then, kept_none, kept_more, kept_all, set_more}
use Rattle.rdb_evaluation.proofs.reducing.without_repeats.Goals as goal

pub loop-tuple-init : goal.loop-tuple-init
loop-tuple-init c = record {
  rebinds = subst (Rebinds c.args.ranges.now c.args.scope.now) (sym c.in_ok-bound.ensures) (rebinds_sources c.args.ranges.now c.args.scope.now);
  seen = λ q. ap (list_any (λ (k : ReducedValues). is_eq (row_order q.values k.values))) c.new-seen.ensures.empty
      ∙ sym (ap (λ ks. seen_in (reduced_row c.args.clauses.now c.args.ranges.now c.args.tables.now c.args.scope.now) ks q.values) c.new-kept.ensures);
  whole = kept_none (reduced_row c.args.clauses.now c.args.ranges.now c.args.tables.now c.args.scope.now) _ c.new-kept.result c.args.tuples.now c.new-kept.ensures refl;
}

pub loop-tuple-preserved : goal.loop-tuple-preserved
loop-tuple-preserved c =
    let inv = c.loop-tuple.invariant in
    let ss = c.args.ranges.now in
    let i = c.loop-tuple.tuple-index in
    let tuple = c.tuple-item.result in
    let width : length tuple ≡ length ss = ap length c.tuple-item.is ∙ c.requires i tuple c.loop-tuple-test.true in
    let bound = c.rebind.ensures ∙ ap (rebound (length c.args.scope.now) c.loop-tuple.bound.items) c.as_slice.ensures in
    let scope : c.as_slice-in-loop-tuple.result.now ≡ bind_tuple ss tuple c.args.scope.now = c.as_slice-in-loop-tuple.ensures.value ∙ bound ∙ inv.rebinds.at tuple width in
    let row = reduced_row c.args.clauses.now ss c.args.tables.now c.args.scope.now in
    let values : c.in_ok-values.values ≡ row tuple = c.in_ok-values.ensures ∙ ap (λ b. map (value_read c.args.tables.now b) (reduced_fields c.args.clauses.now)) scope in
    let new : c.in_ok-first.first ≡ not (seen_in row c.loop-tuple.kept (row tuple)) =
    c.in_ok-first.ensures.added ∙ ap not (inv.seen (record { values = c.in_ok-values.values }) ∙ ap (seen_in row c.loop-tuple.kept) values) in
    record {
      rebinds = subst (Rebinds ss c.args.scope.now) (sym bound) (rebinds_more ss c.args.scope.now c.loop-tuple.bound.items tuple inv.rebinds width);
      seen = λ q. set_more row c.loop-tuple.kept c.push_if.new.found tuple q.values c.in_ok-first.first _ new c.in_ok-push_if.ensures
          (c.in_ok-first.ensures.updates.0 q ∙ (λ j. cond (is_eq (row_order (values j) q.values)) true (inv.seen q j)));
      whole = kept_more row c.args.tuples.now i tuple _ c.loop-tuple.kept c.push_if.new.found c.in_ok-first.first c.loop-tuple-test.true c.tuple-item.is inv.whole new c.in_ok-push_if.ensures;
    }

pub returns : goal.returns
returns c =
    kept_all (reduced_row c.args.clauses.now c.args.ranges.now c.args.tables.now c.args.scope.now) c.args.tuples.now c.loop-tuple.tuple-index _ c.loop-tuple.kept c.loop-tuple-test.false c.loop-tuple.invariant.whole
