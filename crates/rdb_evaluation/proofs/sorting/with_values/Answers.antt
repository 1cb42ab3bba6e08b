use Rattle.std.proofs.Common.{◌≡◌, ◌+◌, ◌++◌, ◌∷◌, [], ◌∙◌, sym, ap, subst, length, map, take, get_or}
use Rattle.rdb_meaning.specs.Evaluation.{bind_tuple}
use Rattle.rdb_meaning.specs.Selecting.{sort_keys}
use Rattle.rdb_evaluation.specs.Crossing.{rebound}
use Rattle.rdb_evaluation.specs.Sorting.{ranked_tuple, key_values, value_read}
use Rattle.rdb_evaluation.proofs.Sorted.{map_take_more}
use Rattle.rdb_evaluation.proofs.Rebinding.{Rebinds, rebinds_sources, rebinds_more}
use Rattle.rdb_evaluation.proofs.sorting.with_values.Goals as goal

pub loop-tuple-init : goal.loop-tuple-init
loop-tuple-init c = record {
  rebinds = subst (Rebinds c.args.ranges.now c.args.scope.now) (sym c.in_ok-bound.ensures) (rebinds_sources c.args.ranges.now c.args.scope.now);
  whole = c.new-ranked.ensures.items;
}

pub loop-tuple-preserved : goal.loop-tuple-preserved
loop-tuple-preserved c =
    let inv = c.loop-tuple.invariant in
    let ss = c.args.ranges.now in
    let i = c.loop-tuple.tuple-index in
    let tuple = c.tuple-item.result in
    let width : length tuple ≡ length ss = ap length c.tuple-item.is ∙ c.requires i tuple c.loop-tuple-test.true in
    let bound = c.rebind.ensures ∙ ap (rebound (length c.args.scope.now) c.loop-tuple.bound.items) c.as_slice.ensures in
    let scope : c.as_slice-in-loop-tuple.result.now ≡ bind_tuple ss tuple c.args.scope.now = c.as_slice-in-loop-tuple.ensures.value ∙ bound ∙ inv.rebinds.at tuple width in
    let rank = ranked_tuple c.args.clauses.now ss c.args.tables.now c.args.scope.now in
    let values = c.in_ok-values.ensures ∙ ap (λ b. key_values (sort_keys c.args.clauses.now) (value_read c.args.tables.now b)) scope in
    record {
      rebinds = subst (Rebinds ss c.args.scope.now) (sym bound) (rebinds_more ss c.args.scope.now c.loop-tuple.bound.items tuple inv.rebinds width);
      whole = c.in_ok-push.ensures.items
          ∙ (λ j. inv.whole j ++ record { values = values j; tuple = c.in_ok-tuple.ensures j } ∷ [])
          ∙ sym (map_take_more rank c.args.tuples.now i tuple c.loop-tuple-test.true c.tuple-item.is);
    }
