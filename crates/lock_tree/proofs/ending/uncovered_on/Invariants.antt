use Rattle.std.proofs.Common.{◌≡◌, drop}
use Rattle.vms_queues.specs.Modes.{least_above}
use Rattle.lock_needs.specs.Keeping.{needed_uncovered}
use Rattle.lock_tree_laws.specs.LockTable.{granted_at}
use Rattle.lock_tree.proofs.ending.uncovered_on.Given as goal

abbrev pub invariant-loop-need : goal.invariant-loop-need
invariant-loop-need l = least_above l.mode (needed_uncovered (granted_at l.locks l.owner) (drop l.need-index l.needs) l.node) ≡ needed_uncovered (granted_at l.locks l.owner) l.needs l.node
