use Rattle.std.proofs.Common.{◌≡◌, true, length}
use Rattle.lock_tree_laws.specs.LockTable.{granted_at, sought_at, HasIntents}
use Rattle.lock_tree_laws.specs.Parties.{IsKept, KeepsOthers, wanting}
use Rattle.lock_tree_laws.specs.Order.{MakesWay, StandsByNeeds}
use Rattle.lock_tree_laws.specs.Inner.Spare.{UsesSpare, is_over_others}
use Rattle.lock_tree_laws.specs.Room.{depth}
use Rattle.lock_tree.proofs.ending.end_want.Given as goal

abbrev pub invariant-loop-up : goal.invariant-loop-up
invariant-loop-up l =
    HasIntents l.locks × IsKept l.locks l.owner (wanting l.party.needs l.left)
    × (sought_at l.locks l.owner l.left.here ≡ granted_at l.locks l.owner l.left.here) × KeepsOthers l.owner l.fn.locks l.locks
    × MakesWay l.owner l.fn.locks l.locks × (StandsByNeeds l.fn.locks l.owner (wanting l.party.needs l.fn.want) → StandsByNeeds l.locks l.owner (wanting l.party.needs l.left))
    × UsesSpare (length l.party.needs) l.fn.locks l.locks × (is_over_others l.left ≡ true → UsesSpare 0 l.fn.locks l.locks)

abbrev pub decreases-loop-up : goal.decreases-loop-up
decreases-loop-up l = depth l.left.here.level
