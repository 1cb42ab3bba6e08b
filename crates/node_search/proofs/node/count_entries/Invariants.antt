use Rattle.std.proofs.Common.{length, ◌-◌}
use Rattle.node_search.proofs.Nodes.{HasCounted}
use Rattle.node_search.proofs.node.count_entries.Given as goal

abbrev pub invariant-loop-at : goal.invariant-loop-at
invariant-loop-at l = HasCounted l.level l.bytes l.from l.at l.count l.before

abbrev pub decreases-loop-at : goal.decreases-loop-at
decreases-loop-at l = length l.bytes - l.at
