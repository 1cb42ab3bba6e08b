use Rattle.std.proofs.Common.{◌≡◌, take}
use Rattle.rdo_acts.proofs.scope.copied_scope.Given as goal

abbrev pub invariant-loop-variable : goal.invariant-loop-variable
invariant-loop-variable l = l.copy ≡ take l.variable-index l.scope
