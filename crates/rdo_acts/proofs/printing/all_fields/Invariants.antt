use Rattle.std.proofs.Common.{◌≡◌, ◌+◌, ◌++◌, drop}
use Rattle.rdo_acts.specs.Printing.{values_line}
use Rattle.rdo_acts.proofs.printing.all_fields.Given as goal

abbrev pub invariant-loop-at : goal.invariant-loop-at
invariant-loop-at l = values_line l.kinds l.variable.place l.values ≡ l.line ++ values_line (drop l.at l.kinds) (l.variable.place + l.at) l.values
