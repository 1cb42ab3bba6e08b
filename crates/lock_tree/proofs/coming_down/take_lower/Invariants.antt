use Rattle.std.proofs.Common.{◌≡◌, take, ◌+◌, ◌≤◌, true}
use Rattle.lock_needs.specs.Needs.{all_covered, supposing}
use Rattle.lock_tree_laws.specs.LockTable.{granted_at}
use Rattle.lock_tree_laws.specs.Order.{MakesWay}
use Rattle.lock_tree_laws.specs.Inner.Spare.{UsesSpare}
use Rattle.lock_tree_laws.proofs.Taking.{IsComingDown}
use Rattle.lock_tree.proofs.coming_down.take_lower.Given as goal

abbrev pub invariant-loop-need : goal.invariant-loop-need
invariant-loop-need l =
    IsComingDown l.fn.locks l.locks l.owner l.node l.keep (take l.need-index l.needs) × MakesWay l.owner l.fn.locks l.locks × (l.fn.locks.spare ≤ l.locks.spare + l.need-index)
    × (all_covered (supposing l.node l.keep (granted_at l.fn.locks l.owner)) l.needs ≡ true → UsesSpare 0 l.fn.locks l.locks)
