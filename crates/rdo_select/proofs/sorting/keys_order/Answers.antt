use Rattle.std.proofs.Common.{◌∙◌, sym}
use Rattle.rdo_select.proofs.Orders.{key_decides, key_more}
use Rattle.rdo_select.proofs.sorting.keys_order.Goals as goal

pub returns-then-is_ne : goal.returns-then-is_ne
returns-then-is_ne c =
    key_decides c.args.keys.now c.args.a.now c.args.b.now c.loop-key.key-index c.key-item.result c.order_at.result c.turned-order.result c.loop-key-test.true c.key-item.is c.loop-key.invariant c.order_at.ensures c.turned-order.ensures
    (sym c.is_ne.ensures ∙ c.if-is_ne.true)

pub loop-key-preserved : goal.loop-key-preserved
loop-key-preserved c =
    key_more c.args.keys.now c.args.a.now c.args.b.now c.loop-key.key-index c.key-item.result c.order_at.result c.turned-order.result c.loop-key-test.true c.key-item.is c.loop-key.invariant c.order_at.ensures c.turned-order.ensures
    (sym c.is_ne.ensures ∙ c.if-is_ne.false)
