use Rattle.std.proofs.Common.{◌≡◌, length, rules}
use Rattle.rdo_select.proofs.Orders.{unsorted}
use Rattle.rdo_select.proofs.sorting.sorted.Goals as goal

pub returns-then-is_empty : goal.returns-then-is_empty
returns-then-is_empty c =
    let none : length c.args.clauses.now ≡ 0 = search rules in
    unsorted c.args.clauses.now c.args.found none
