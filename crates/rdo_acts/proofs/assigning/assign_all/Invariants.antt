use Rattle.std.proofs.Common.{◌≡◌, drop, map}
use Rattle.std.specs.List.{All}
use Rattle.rdb_meaning.specs.declared.tables.Tables.{Tables}
use Rattle.rdb_meaning.specs.Evaluation.{Scope}
use Rattle.rdb_meaning.specs.Execution.{assign}
use Rattle.line_view.specs.Knowledge.{Lines}
use Rattle.row_writes.specs.Rows.{IsSoundView}
use Rattle.rdo_values.specs.Rows.{row_of, variables_of}
use Rattle.rdo_bind.specs.Assigning.{written_assign, IsBoundAssign}
use Rattle.rdo_acts.proofs.assigning.assign_all.Given as goal

abbrev pub invariant-loop-assign : goal.invariant-loop-assign
invariant-loop-assign l =
    (first : Lines) (t : Tables) (scope : Scope) → IsSoundView l.view l.given.schema.now t first → All (IsBoundAssign t (variables_of scope)) l.assigns → row_of t scope ≡ l.values
    → assign (map written_assign l.assigns) l.fields t scope l.fn.row ≡ assign (map written_assign (drop l.assign-index l.assigns)) l.fields t scope l.row
