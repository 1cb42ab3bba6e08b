use Rattle.index_node.specs.OrderLaws.{entries_total}
use Rattle.index_node.proofs.order.entries_are_ordered.Goals as goal

pub returns : goal.returns
returns c = entries_total
