use Rattle.std.proofs.Common.{◌∙◌}
use Rattle.node_search.proofs.Keys.{order_first}
use Rattle.node_search.proofs.key.first_values_order.Goals as goal

pub returns : goal.returns
returns c = λ values shows. c.order_by.ensures values shows ∙ order_first values c.args.bound.now
