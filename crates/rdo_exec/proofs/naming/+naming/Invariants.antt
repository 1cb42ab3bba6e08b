use Rattle.std.proofs.Common.{◌≡◌, map, drop}
use Rattle.rdo_ast.specs.Views.{applied_of, operations_of, testing_of, conjunction_of, conjunction_with, condition_of, condition_with}
use Rattle.rdb_meaning.specs.Checks.{operations_uses, conjunction_uses, condition_uses}
use Rattle.rdo_exec.specs.Ways.{names_any}
use Rattle.rdo_exec.proofs.naming.+naming.Given as goal

abbrev pub invariant-condition_names-loop-conjunction : goal.invariant-condition_names-loop-conjunction
invariant-condition_names-loop-conjunction l =
    names_any (condition_uses (condition_of l.condition))
    ≡ names_any (condition_uses (condition_with (map conjunction_of (drop l.conjunction-index l.conjunction-items))))

abbrev pub invariant-conjunction_names-loop-test : goal.invariant-conjunction_names-loop-test
invariant-conjunction_names-loop-test l =
    names_any (conjunction_uses (conjunction_of l.conjunction))
    ≡ names_any (conjunction_uses (conjunction_with (map testing_of (drop l.test-index l.test-items))))

abbrev pub invariant-operations_name-loop-operation : goal.invariant-operations_name-loop-operation
invariant-operations_name-loop-operation l =
    names_any (operations_uses (operations_of (map applied_of l.operations)))
    ≡ names_any (operations_uses (operations_of (map applied_of (drop l.operation-index l.operations))))
