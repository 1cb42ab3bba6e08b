use Rattle.index_ahead.specs.Added.{AddsOnly}
use Rattle.index_ahead.specs.Ahead.{IsUnknownIn}
use Rattle.node_search.proofs.Entries.{bytes_left}
use Rattle.index_ahead.proofs.ahead.+add_below.Given as goal

abbrev pub decreases-add_below : goal.decreases-add_below
decreases-add_below g l = l.node.level

abbrev pub invariant-loop-next : goal.invariant-loop-next
invariant-loop-next g l = AddsOnly (IsUnknownIn (g.V.View.knows l.view) l.area) l.fn.keys.keys l.keys.keys

abbrev pub decreases-loop-next : goal.decreases-loop-next
decreases-loop-next g l = bytes_left l.node.bytes.now l.next
