use Rattle.index_node.proofs.Nodes as nodes
use Rattle.index_node.proofs.node.one_node.Goals as goal

pub returns : goal.returns
returns c = nodes.one_node
