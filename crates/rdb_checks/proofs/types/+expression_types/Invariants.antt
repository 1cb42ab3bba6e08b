use Rattle.std.proofs.Common.{◌≡◌, map, drop}
use Rattle.rdo_ast.specs.Views.{applied_of, operations_of, testing_of, conjunction_of, conjunction_with, condition_of, condition_with}
use Rattle.rdb_meaning.specs.Checks.{operations_clash, conjunction_clashes, condition_clashes}
use Rattle.rdb_checks.proofs.types.+expression_types.Given as goal

abbrev pub invariant-condition_clashes-loop-conjunction : goal.invariant-condition_clashes-loop-conjunction
invariant-condition_clashes-loop-conjunction l =
    condition_clashes (condition_of l.condition) l.tables l.scope
    ≡ condition_clashes (condition_with (map conjunction_of (drop l.conjunction-index l.conjunction-items))) l.tables l.scope

abbrev pub invariant-conjunction_clashes-loop-test : goal.invariant-conjunction_clashes-loop-test
invariant-conjunction_clashes-loop-test l =
    conjunction_clashes (conjunction_of l.conjunction) l.tables l.scope
    ≡ conjunction_clashes (conjunction_with (map testing_of (drop l.test-index l.test-items))) l.tables l.scope

abbrev pub invariant-operations_clash-loop-operation : goal.invariant-operations_clash-loop-operation
invariant-operations_clash-loop-operation l =
    operations_clash (operations_of (map applied_of l.operations)) l.tables l.scope
    ≡ operations_clash (operations_of (map applied_of (drop l.operation-index l.operations))) l.tables l.scope
