use Rattle.std.proofs.Common.{◌≡◌, map, take, drop}
use Rattle.rdo_ast.specs.Views.{operations_of, applied_of, testing_of, conjunction_of, conjunction_with, condition_with}
use Rattle.rdb_meaning.specs.Checks.{operations_names, conjunction_names, condition_names}
use Rattle.rdo_values.specs.Views.{operations_of as bound_operations_of, applied_of as bound_applied_of, testing_of as bound_testing_of, conjunction_of as bound_conjunction_of, conjunction_with as bound_conjunction_with, condition_with as bound_condition_with}
use Rattle.rdo_values.specs.Rows.{variables_of}
use Rattle.rdo_values.specs.Places.{AreBound, IsBoundConjunction, IsBoundCondition}
use Rattle.rdo_bind.specs.Answers.{written_operation, written_test, written_conjunction}
use Rattle.rdo_bind.proofs.expression.+binding.Given as goal

abbrev pub invariant-bind_operations-loop-operation : goal.invariant-bind_operations-loop-operation
invariant-bind_operations-loop-operation l = record {
  names : operations_names (operations_of (map applied_of l.operations)) l.tables l.scope
      ≡ operations_names (operations_of (map applied_of (drop l.operation-index l.operations))) l.tables l.scope;
  written : map written_operation l.bound ≡ map applied_of (take l.operation-index l.operations);
  bound : AreBound (bound_operations_of (map bound_applied_of l.bound)) l.tables (variables_of l.scope);
}

abbrev pub invariant-bind_tests-loop-test : goal.invariant-bind_tests-loop-test
invariant-bind_tests-loop-test l = record {
  names : conjunction_names (conjunction_with (map testing_of l.tests)) l.tables l.scope
      ≡ conjunction_names (conjunction_with (map testing_of (drop l.test-index l.tests))) l.tables l.scope;
  written : map written_test l.bound ≡ map testing_of (take l.test-index l.tests);
  bound : IsBoundConjunction (bound_conjunction_with (map bound_testing_of l.bound)) l.tables (variables_of l.scope);
}

abbrev pub invariant-bind_conjunctions-loop-conjunction : goal.invariant-bind_conjunctions-loop-conjunction
invariant-bind_conjunctions-loop-conjunction l = record {
  names : condition_names (condition_with (map conjunction_of l.conjunctions)) l.tables l.scope
      ≡ condition_names (condition_with (map conjunction_of (drop l.conjunction-index l.conjunctions))) l.tables l.scope;
  written : map written_conjunction l.bound ≡ map conjunction_of (take l.conjunction-index l.conjunctions);
  bound : IsBoundCondition (bound_condition_with (map bound_conjunction_of l.bound)) l.tables (variables_of l.scope);
}
