use Rattle.std.proofs.Common.{◌≡◌, drop}
use Rattle.rdo_select.specs.Ordered.{order_by_keys}
use Rattle.rdo_select.proofs.sorting.keys_order.Given as goal

abbrev pub invariant-loop-key : goal.invariant-loop-key
invariant-loop-key l = order_by_keys l.keys l.a l.b ≡ order_by_keys (drop l.key-index l.keys) l.a l.b
