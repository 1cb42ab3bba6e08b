use Rattle.std.proofs.Common.{◌≡◌, rules}
use Rattle.std.specs.Ordering.{is_lt}
use Rattle.std.proofs.lemmas.Fn.{always_returns_same}
use Rattle.std.proofs.lemmas.List.Sorted.{ranks_by}
use Rattle.rdo_arithmetic.proofs.StableSort.{sort_is}
use Rattle.rdo_select.specs.declared.crossing.Found.{Found}
use Rattle.rdo_select.specs.Ordered.{found_order}
use Rattle.rdo_select.proofs.Orders.{found_total}
use Rattle.rdo_select.proofs.sorting.sort.Goals as goal

pub returns : goal.returns
returns c =
    let order = found_order c.args.clauses.now in
    let total = found_total c.args.clauses.now in
    let weak = ranks_by total (λ (x : Found). x) in
    let sorted = c.in_ok-sort_by.ensures.sorted (λ x y. is_lt (order x y)) weak (always_returns_same _ (λ a r. is_lt r ≡ is_lt (order a.0.now a.1.0.now)) _ (λ a r f k. search rules)) in
    let stable = c.in_ok-sort_by.ensures.stable (λ x y. is_lt (order x y)) weak (always_returns_same _ (λ a r. is_lt r ≡ is_lt (order a.0.now a.1.0.now)) _ (λ a r f k. search rules)) in
    sort_is order total c.args.tuples.now.items c.sort_by.new.self.items sorted stable
