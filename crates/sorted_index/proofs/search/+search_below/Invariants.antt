use Rattle.index_node.specs.declared.node.IndexNode.{IndexNode}
use Rattle.node_search.specs.Nodes.{Holds}
use Rattle.node_search.specs.Wanted.{interval_of}
use Rattle.node_search.proofs.Entries.{bytes_left}
use Rattle.sorted_index.proofs.Gone.{HasGone}
use Rattle.sorted_index.proofs.search.+search_below.Given as goal

abbrev pub decreases-search_below : goal.decreases-search_below
decreases-search_below g l = l.node.level

abbrev pub invariant-loop-next : goal.invariant-loop-next
invariant-loop-next g l = (shown : IndexNode) → Holds l.node shown → HasGone (g.V.View.knows l.view) (interval_of l.wanted) l.node shown l.next l.is_first l.fn.found l.found

abbrev pub decreases-loop-next : goal.decreases-loop-next
decreases-loop-next g l = bytes_left l.node.bytes.now l.next
