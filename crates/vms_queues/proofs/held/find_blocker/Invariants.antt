use Rattle.std.proofs.Common.{◌≡◌, drop}
use Rattle.vms_queues.specs.Queues.{first_of, blockers}
use Rattle.vms_queues.proofs.held.find_blocker.Given as goal

abbrev pub invariant-loop-held : goal.invariant-loop-held
invariant-loop-held l = first_of (blockers l.owner l.mode (drop l.held-index l.entries)) ≡ first_of (blockers l.owner l.mode l.entries)
