use Rattle.std.proofs.Common.{◌≡◌, drop}
use Rattle.rdb_meaning.specs.Evaluation.{bound_as}
use Rattle.rdb_meaning.proofs.scope.binding_of.Given as goal

abbrev pub invariant-loop-binding : goal.invariant-loop-binding
invariant-loop-binding l = bound_as l.variable (drop l.binding-index l.scope) ≡ bound_as l.variable l.scope
