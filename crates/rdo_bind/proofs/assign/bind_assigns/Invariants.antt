use Rattle.std.proofs.Common.{◌≡◌, map, take, drop}
use Rattle.std.specs.List.{All}
use Rattle.rdo_ast.specs.Views.{assignment_of}
use Rattle.rdb_meaning.specs.Checks.{first_refusal, assignment_names}
use Rattle.rdo_values.specs.Rows.{variables_of}
use Rattle.rdo_bind.specs.Assigning.{written_assign, IsBoundAssign}
use Rattle.rdo_bind.proofs.assign.bind_assigns.Given as goal

abbrev pub invariant-loop-assign : goal.invariant-loop-assign
invariant-loop-assign l = record {
  names : first_refusal (assignment_names l.variable l.tables l.scope) (map assignment_of l.assigns)
      ≡ first_refusal (assignment_names l.variable l.tables l.scope) (map assignment_of (drop l.assign-index l.assigns));
  written : map written_assign l.bound ≡ map assignment_of (take l.assign-index l.assigns);
  bound : All (IsBoundAssign l.tables (variables_of l.scope)) l.bound;
}
