use Rattle.index_node.specs.declared.node.IndexNode.{IndexNode}
use Rattle.node_search.specs.Nodes.{Holds}
use Rattle.node_search.specs.Wanted.{interval_of}
use Rattle.node_search.proofs.Entries.{bytes_left}
use Rattle.sorted_index.proofs.Gone.{HasFound}
use Rattle.sorted_index.proofs.search.add_rows.Given as goal

abbrev pub invariant-loop-next : goal.invariant-loop-next
invariant-loop-next l = (shown : IndexNode) → Holds l.node shown → HasFound (interval_of l.wanted) l.node shown l.next l.fn.found l.found

abbrev pub decreases-loop-next : goal.decreases-loop-next
decreases-loop-next l = bytes_left l.node.bytes.now l.next
