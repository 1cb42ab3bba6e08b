use Rattle.std.proofs.Common.{◌≡◌, drop}
use Rattle.lock_needs.specs.Waits.{asked_before}
use Rattle.lock_needs.proofs.waiting.asked_before.Given as goal

abbrev pub invariant-loop-asked : goal.invariant-loop-asked
invariant-loop-asked l = asked_before l.first l.second l.node (drop l.asked-index l.asks) ≡ asked_before l.first l.second l.node l.asks
