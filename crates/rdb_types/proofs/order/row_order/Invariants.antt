use Rattle.std.proofs.Common.{◌≡◌, drop}
use Rattle.rdb_types.specs.Order.{row_order}
use Rattle.rdb_types.proofs.order.row_order.Given as goal

abbrev pub invariant-loop-at : goal.invariant-loop-at
invariant-loop-at l = row_order l.a l.b ≡ row_order (drop l.at l.a) (drop l.at l.b)
