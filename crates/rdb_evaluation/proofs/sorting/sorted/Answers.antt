use Rattle.std.proofs.Common.{◌≡◌, ◌∙◌, List, map, sym, ap, subst}
use Rattle.std.specs.Result.{IfOk}
use Rattle.rdb_meaning.specs.Selecting.{stably_sorted, sort_keys}
use Rattle.rdb_evaluation.specs.declared.sorting.Ranked.{Ranked}
use Rattle.rdb_evaluation.specs.Sorting.{ranked_order, ranked_tuple}
use Rattle.rdb_evaluation.proofs.Sorted.{sorted_is, unsorted}
use Rattle.rdb_evaluation.proofs.sorting.sorted.Goals as goal

pub returns-then-is_empty : goal.returns-then-is_empty
returns-then-is_empty c =
    sym (unsorted c.args.clauses.now c.args.ranges.now c.args.tables.now c.args.scope.now c.args.tuples (sym c.in_ok-directions.ensures ∙ c.is_empty.ensures.0 c.if-is_empty.true))

pub returns : goal.returns
returns c =
    let rank = ranked_tuple c.args.clauses.now c.args.ranges.now c.args.tables.now c.args.scope.now in
    subst (λ ts. IfOk c.without_values.result (λ tuples. tuples ≡ ts))
    (ap (map (λ (r : Ranked). r.tuple))
    (c.in_ok-sort_ranked.ensures
    ∙ (λ i. stably_sorted (ranked_order ((c.as_slice-2.ensures ∙ c.in_ok-directions.ensures) i)) ((c.in_ok-ranked.ensures ∙ ap (map rank) c.as_slice.ensures) i)))
    ∙ sorted_is c.args.clauses.now c.args.ranges.now c.args.tables.now c.args.scope.now c.args.tuples)
    c.without_values.ensures
