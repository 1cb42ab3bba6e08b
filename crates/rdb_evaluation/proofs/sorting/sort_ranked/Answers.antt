use Rattle.std.proofs.Common.{◌≡◌, Bool, rules}
use Rattle.std.specs.Ordering.{is_lt}
use Rattle.std.proofs.lemmas.Fn.{always_returns_same}
use Rattle.std.proofs.lemmas.List.Sorted.{ranks_by}
use Rattle.rdb_evaluation.specs.declared.sorting.Ranked.{Ranked}
use Rattle.rdb_evaluation.specs.Sorting.{ranked_order}
use Rattle.rdb_evaluation.proofs.Ranks.{ranked_total}
use Rattle.rdo_arithmetic.proofs.StableSort.{sort_is}
use Rattle.rdb_evaluation.proofs.sorting.sort_ranked.Goals as goal

pub returns : goal.returns
returns c =
    let order = ranked_order c.args.directions.now in
    let total = ranked_total c.args.directions.now in
    let weak = ranks_by total (λ (x : Ranked). x) in
    let sorted = c.in_ok-sort_by.ensures.sorted (λ x y. is_lt (order x y)) weak (always_returns_same _ (λ a r. is_lt r ≡ is_lt (order a.0.now a.1.0.now)) _ (λ a r f k. search rules)) in
    let stable = c.in_ok-sort_by.ensures.stable (λ x y. is_lt (order x y)) weak (always_returns_same _ (λ a r. is_lt r ≡ is_lt (order a.0.now a.1.0.now)) _ (λ a r f k. search rules)) in
    sort_is order total c.args.ranked.now.items c.sort_by.new.self.items sorted stable
