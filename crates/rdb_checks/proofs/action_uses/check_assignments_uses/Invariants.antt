use Rattle.std.proofs.Common.{◌≡◌, map, drop}
use Rattle.rdo_ast.specs.Views.{assignment_of}
use Rattle.rdb_checks.specs.Unreserved.{assignments_unreserved}
use Rattle.rdb_checks.proofs.action_uses.check_assignments_uses.Given as goal

abbrev pub invariant-loop-assign : goal.invariant-loop-assign
invariant-loop-assign l =
    assignments_unreserved l.reservations (map assignment_of l.assigns)
    ≡ assignments_unreserved l.reservations (map assignment_of (drop l.assign-index l.assigns))
