use Rattle.index_node.proofs.Nodes as nodes
use Rattle.index_node.proofs.node.one_image.Goals as goal

pub returns : goal.returns
returns c = nodes.one_image
