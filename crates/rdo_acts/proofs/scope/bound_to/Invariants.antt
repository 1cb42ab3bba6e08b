use Rattle.rdo_acts.proofs.BoundTuple.{IsBinding}
use Rattle.rdo_acts.proofs.scope.bound_to.Given as goal

abbrev pub invariant-loop-at : goal.invariant-loop-at
invariant-loop-at l = IsBinding l.scope l.ranges l.tuple l.bound l.at
