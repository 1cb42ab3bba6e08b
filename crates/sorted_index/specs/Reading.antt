-- Reading a node where it lies.
use Rattle.std.specs.Prelude.{Result, Ok, Err}
use Rattle.rdb_types.specs.declared.keys.Dbkey.{Dbkey}
use Rattle.index_node.specs.declared.node.IndexNode.{IndexNode}
use Rattle.line_view.specs.Knowledge.{Knowledge}
use Rattle.node_search.specs.declared.node.BorrowedNode.{BorrowedNode}
use Rattle.node_search.specs.Nodes.{Holds}
use Rattle.sorted_index_laws.specs.Stop.{IndexStop}
use Rattle.sorted_index_laws.specs.Inner.Steps.{ReadsNode}

-- it is as reading its node
abbrev pub ReadsBorrowed : Knowledge → Dbkey → (IndexNode → Type 0) → Result BorrowedNode IndexStop → Type 0
ReadsBorrowed known at Allowed (Ok borrowed) = (node : IndexNode) × (Holds borrowed node × ReadsNode known at Allowed (Ok node))
ReadsBorrowed known at Allowed (Err stop) = ReadsNode known at Allowed (Err stop)
