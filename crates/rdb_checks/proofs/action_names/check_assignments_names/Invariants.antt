use Rattle.std.proofs.Common.{◌≡◌, map, drop}
use Rattle.rdo_ast.specs.Views.{assignment_of}
use Rattle.rdb_meaning.specs.Checks.{first_refusal, assignment_names}
use Rattle.rdb_checks.proofs.action_names.check_assignments_names.Given as goal

abbrev pub invariant-loop-assign : goal.invariant-loop-assign
invariant-loop-assign l =
    first_refusal (assignment_names l.variable l.tables l.scope) (map assignment_of l.assigns)
    ≡ first_refusal (assignment_names l.variable l.tables l.scope) (map assignment_of (drop l.assign-index l.assigns))
