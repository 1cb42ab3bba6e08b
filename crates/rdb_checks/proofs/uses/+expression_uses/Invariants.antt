use Rattle.std.proofs.Common.{◌≡◌, map, drop}
use Rattle.rdo_ast.specs.Views.{applied_of, operations_of, testing_of, conjunction_of, conjunction_with, condition_of, condition_with}
use Rattle.rdb_checks.specs.Unreserved.{operations_unreserved, conjunction_unreserved, condition_unreserved}
use Rattle.rdb_checks.proofs.uses.+expression_uses.Given as goal

abbrev pub invariant-check_condition_uses-loop-conjunction : goal.invariant-check_condition_uses-loop-conjunction
invariant-check_condition_uses-loop-conjunction l =
    condition_unreserved l.reservations (condition_of l.condition)
    ≡ condition_unreserved l.reservations (condition_with (map conjunction_of (drop l.conjunction-index l.conjunction-items)))

abbrev pub invariant-check_conjunction_uses-loop-test : goal.invariant-check_conjunction_uses-loop-test
invariant-check_conjunction_uses-loop-test l =
    conjunction_unreserved l.reservations (conjunction_of l.conjunction)
    ≡ conjunction_unreserved l.reservations (conjunction_with (map testing_of (drop l.test-index l.test-items)))

abbrev pub invariant-check_operations_uses-loop-operation : goal.invariant-check_operations_uses-loop-operation
invariant-check_operations_uses-loop-operation l =
    operations_unreserved l.reservations (operations_of (map applied_of l.operations))
    ≡ operations_unreserved l.reservations (operations_of (map applied_of (drop l.operation-index l.operations)))
