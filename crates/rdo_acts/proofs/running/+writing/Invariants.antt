use Rattle.std.proofs.Common.{◌≡◌, drop}
use Rattle.rdo_acts.proofs.Writing.{writes_in}
use Rattle.rdo_acts.proofs.running.+writing.Given as goal

abbrev pub invariant-any_writes-loop-action : goal.invariant-any_writes-loop-action
invariant-any_writes-loop-action l = writes_in l.body ≡ writes_in (drop l.action-index l.body)
