use Rattle.std.proofs.Common.{◌≡◌, map, drop}
use Rattle.std.specs.List.{list_any}
use Rattle.rdo_ast.specs.Views.{assignment_of}
use Rattle.rdb_meaning.specs.Checks.{assignment_clashes}
use Rattle.rdb_checks.proofs.action_types.assignments_clash.Given as goal

abbrev pub invariant-loop-assign : goal.invariant-loop-assign
invariant-loop-assign l =
    list_any (assignment_clashes l.tables l.scope) (map assignment_of l.assigns)
    ≡ list_any (assignment_clashes l.tables l.scope) (map assignment_of (drop l.assign-index l.assigns))
