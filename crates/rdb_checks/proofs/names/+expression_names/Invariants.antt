use Rattle.std.proofs.Common.{◌≡◌, map, drop}
use Rattle.rdo_ast.specs.Views.{applied_of, operations_of, testing_of, conjunction_of, conjunction_with, condition_of, condition_with}
use Rattle.rdb_meaning.specs.Checks.{operations_names, conjunction_names, condition_names}
use Rattle.rdb_checks.proofs.names.+expression_names.Given as goal

abbrev pub invariant-check_condition_names-loop-conjunction : goal.invariant-check_condition_names-loop-conjunction
invariant-check_condition_names-loop-conjunction l =
    condition_names (condition_of l.condition) l.tables l.scope
    ≡ condition_names (condition_with (map conjunction_of (drop l.conjunction-index l.conjunction-items))) l.tables l.scope

abbrev pub invariant-check_conjunction_names-loop-test : goal.invariant-check_conjunction_names-loop-test
invariant-check_conjunction_names-loop-test l =
    conjunction_names (conjunction_of l.conjunction) l.tables l.scope
    ≡ conjunction_names (conjunction_with (map testing_of (drop l.test-index l.test-items))) l.tables l.scope

abbrev pub invariant-check_operations_names-loop-operation : goal.invariant-check_operations_names-loop-operation
invariant-check_operations_names-loop-operation l =
    operations_names (operations_of (map applied_of l.operations)) l.tables l.scope
    ≡ operations_names (operations_of (map applied_of (drop l.operation-index l.operations))) l.tables l.scope
