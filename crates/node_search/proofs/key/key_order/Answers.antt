use Rattle.std.proofs.Common.{◌∙◌}
use Rattle.node_search.proofs.Keys.{order_whole}
use Rattle.node_search.proofs.key.key_order.Goals as goal

pub returns : goal.returns
returns c = λ values shows. c.order_by.ensures values shows ∙ order_whole values c.args.others.now
