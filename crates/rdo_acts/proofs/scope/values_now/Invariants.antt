use Rattle.std.proofs.Common.{◌≡◌, take}
use Rattle.rdb_meaning.specs.declared.tables.Tables.{Tables}
use Rattle.line_view.specs.Knowledge.{Lines}
use Rattle.row_writes.specs.Rows.{IsSoundView}
use Rattle.rdo_values.specs.Rows.{row_of}
use Rattle.rdo_acts.specs.Scopes.{scope_of}
use Rattle.rdo_acts.proofs.scope.values_now.Given as goal

abbrev pub invariant-loop-variable : goal.invariant-loop-variable
invariant-loop-variable l = (first : Lines) (t : Tables) → IsSoundView l.view l.given.schema.now t first → l.values ≡ row_of t (scope_of (take l.variable-index l.scope))
