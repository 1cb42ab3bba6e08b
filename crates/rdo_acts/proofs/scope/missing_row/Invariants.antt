use Rattle.std.proofs.Common.{◌≡◌}
use Rattle.rdo_acts.specs.Scopes.{missing_values}
use Rattle.rdo_acts.proofs.scope.missing_row.Given as goal

abbrev pub invariant-loop : goal.invariant-loop
invariant-loop l = l.row ≡ missing_values l.counter
