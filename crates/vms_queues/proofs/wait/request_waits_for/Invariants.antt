use Rattle.std.proofs.Common.{◌≡◌, [], take, drop}
use Rattle.vms_queues.specs.Waits.{request_waits}
use Rattle.vms_queues.proofs.wait.request_waits_for.Given as goal

abbrev pub invariant-loop-at : goal.invariant-loop-at
invariant-loop-at l = request_waits l.granted l.converting l.waiter l.blocker (take l.at l.waiting) (drop l.at l.waiting) ≡ request_waits l.granted l.converting l.waiter l.blocker [] l.waiting
