use Rattle.std.proofs.Common.{◌≡◌, drop}
use Rattle.vms_queues.specs.Waits.{conversion_waits}
use Rattle.vms_queues.proofs.wait.conversion_waits_for.Given as goal

abbrev pub invariant-loop-next : goal.invariant-loop-next
invariant-loop-next l = conversion_waits l.granted l.waiter l.blocker (drop l.next-index l.converting) ≡ conversion_waits l.granted l.waiter l.blocker l.converting
