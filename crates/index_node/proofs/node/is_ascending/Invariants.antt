use Rattle.std.specs.List.{AllAdjacentBelow}
use Rattle.index_node.proofs.Nodes.{Below}
use Rattle.index_node.proofs.node.is_ascending.Given as goal

abbrev pub invariant-loop-next : goal.invariant-loop-next
invariant-loop-next l = AllAdjacentBelow Below l.entries l.next
