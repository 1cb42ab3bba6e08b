use Rattle.std.proofs.Common.{◌≡◌, drop, option_map}
use Rattle.rdo_bind.specs.Variables.{behind}
use Rattle.rdo_bind.proofs.Variables.{variable_from}
use Rattle.rdo_bind.proofs.variable.located.Given as goal

abbrev pub invariant-loop-number : goal.invariant-loop-number
invariant-loop-number l =
    variable_from l.tables l.variable l.scope ≡ option_map (behind l.number l.before) (variable_from l.tables l.variable (drop l.number l.scope))
