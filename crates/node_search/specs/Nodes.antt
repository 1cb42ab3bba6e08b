-- The nodes that are borrowed.
use Rattle.std.specs.Prelude.{◌≡◌}
use Rattle.index_node.specs.declared.node.IndexNode.{IndexNode}
use Rattle.index_node.specs.Node.{IsNode}
use Rattle.node_search.specs.declared.node.BorrowedNode.{BorrowedNode}

-- the bytes are the image of this node, and the level is its level
abbrev pub Holds : BorrowedNode → IndexNode → Type 0
Holds borrowed node = IsNode borrowed.bytes.now node × (borrowed.level ≡ node.level)
