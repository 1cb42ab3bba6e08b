use Rattle.std.proofs.Common.{◌-◌}
use Rattle.index_faults.proofs.Walked.{Progress}
use Rattle.index_faults.proofs.walk.+walk_below.Given as goal

abbrev pub decreases-walk_below : goal.decreases-walk_below
decreases-walk_below g l = l.node.level

abbrev pub invariant-loop-at : goal.invariant-loop-at
invariant-loop-at g l = Progress (g.V.View.knows l.view) (l.level - 1) l.fn.node.entries l.at l.fn.walk l.walk
