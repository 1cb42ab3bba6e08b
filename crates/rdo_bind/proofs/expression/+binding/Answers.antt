use Rattle.std.proofs.Common.{◌∙◌, ◌++◌, sym, ap, subst, map, refl}
use Rattle.rdo_ast.specs.Views.{expression_of, operations_of, applied_of, testing_of, conjunction_of, conjunction_with, condition_with}
use Rattle.rdb_meaning.specs.Checks.{operations_names, conjunction_names, condition_names}
use Rattle.rdo_values.specs.declared.bound.BoundExpression as tree
use Rattle.rdo_values.specs.Views.{expression_of as bound_of, operations_of as bound_operations_of, applied_of as bound_applied_of, testing_of as bound_testing_of, conjunction_of as bound_conjunction_of, conjunction_with as bound_conjunction_with, condition_with as bound_condition_with}
use Rattle.rdo_values.specs.Named.{named}
use Rattle.rdo_values.specs.Rows.{variables_of}
use Rattle.rdo_values.specs.Places.{IsBound, AreBound, IsBoundConjunction, IsBoundCondition}
use Rattle.rdo_bind.specs.Answers.{written_operation, written_test, written_conjunction}
use Rattle.rdo_bind.proofs.Lists.{written_more, names_more, operations_names_first, conjunctions_names_first, operation_alike, operation_added, operations_alike, test_added, tests_alike, conjunction_alike, conjunction_bound, conjunction_added, conjunctions_alike, chain_alike, condition_alike, inner_bound, statistic_bound, variables_behind}
use Rattle.rdo_bind.proofs.expression.+binding.Goals as goal

pub bind_operations-loop-operation-preserved : goal.bind_operations-loop-operation-preserved
bind_operations-loop-operation-preserved t c =
    let inv = c.loop-operation.invariant in
    let i = c.loop-operation.operation-index in
    let o = c.operation-item.result in
    let os = c.args.operations.now in
    let tables = c.args.tables.now in
    let scope = c.args.scope.now in
    let pushed = c.in_ok-push.ensures.ok in
    record {
      names = names_more (λ os. operations_names (operations_of (map applied_of os)) tables scope) os i o _ _ c.loop-operation-test.true c.operation-item.is inv.names (operations_names_first o _ tables scope) c.in_ok-operand.ensures.names;
      written = ap (map written_operation) pushed
          ∙ written_more written_operation applied_of _ _ os i o inv.written c.loop-operation-test.true c.operation-item.is (operation_alike _ o refl c.in_ok-operand.ensures.written);
      bound = subst (λ bs. AreBound (bound_operations_of (map bound_applied_of bs)) tables (variables_of scope)) (sym pushed) (operation_added _ _ tables (variables_of scope) inv.bound c.in_ok-operand.ensures.bound);
    }

pub bind_tests-loop-test-preserved : goal.bind_tests-loop-test-preserved
bind_tests-loop-test-preserved t c =
    let inv = c.loop-test.invariant in
    let i = c.loop-test.test-index in
    let x = c.test-item.result in
    let xs = c.args.tests.now in
    let tables = c.args.tables.now in
    let scope = c.args.scope.now in
    let pushed = c.in_ok-push.ensures.ok in
    record {
      names = names_more (λ xs. conjunction_names (conjunction_with (map testing_of xs)) tables scope) xs i x _ _ c.loop-test-test.true c.test-item.is inv.names refl c.in_ok-bind_test.ensures.names;
      written = ap (map written_test) pushed
          ∙ written_more written_test testing_of _ _ xs i x inv.written c.loop-test-test.true c.test-item.is c.in_ok-bind_test.ensures.written;
      bound = subst (λ bs. IsBoundConjunction (bound_conjunction_with (map bound_testing_of bs)) tables (variables_of scope)) (sym pushed) (test_added _ _ tables (variables_of scope) inv.bound c.in_ok-bind_test.ensures.bound);
    }

pub bind_conjunctions-loop-conjunction-preserved : goal.bind_conjunctions-loop-conjunction-preserved
bind_conjunctions-loop-conjunction-preserved t c =
    let inv = c.loop-conjunction.invariant in
    let i = c.loop-conjunction.conjunction-index in
    let x = c.conjunction-item.result in
    let xs = c.args.conjunctions.now in
    let tables = c.args.tables.now in
    let scope = c.args.scope.now in
    let pushed = c.in_ok-push.ensures.ok in
    let none = ap (λ ts. conjunction_names (conjunction_with (map testing_of ts)) tables scope) (sym c.as_slice.ensures) ∙ c.in_ok-tests.ensures.names in
    let alike = tests_alike _ _ c.in_ok-tests.ensures.written ∙ ap (λ ts. conjunction_with (map testing_of ts)) c.as_slice.ensures in
    record {
      names = names_more (λ xs. condition_names (condition_with (map conjunction_of xs)) tables scope) xs i x _ _ c.loop-conjunction-test.true c.conjunction-item.is inv.names (conjunctions_names_first x _ tables scope) none;
      written = ap (map written_conjunction) pushed
          ∙ written_more written_conjunction conjunction_of _ _ xs i x inv.written c.loop-conjunction-test.true c.conjunction-item.is (conjunction_alike c.in_ok-tests.tests x alike);
      bound = subst (λ bs. IsBoundCondition (bound_condition_with (map bound_conjunction_of bs)) tables (variables_of scope)) (sym pushed)
          (conjunction_added _ _ tables (variables_of scope) inv.bound (conjunction_bound c.in_ok-tests.tests tables (variables_of scope) c.in_ok-tests.ensures.bound));
    }

pub bind_condition-returns-clause-written : goal.bind_condition-returns-clause-written
bind_condition-returns-clause-written t c =
    condition_alike c.in_ok-conjunctions.conjunctions c.args.condition.now
    (conjunctions_alike _ _ c.in_ok-conjunctions.ensures.written ∙ ap (λ cs. condition_with (map conjunction_of cs)) c.as_slice.ensures)

pub bind_expression-returns-in_ok-new-in-Chain-clause-written : goal.bind_expression-returns-in_ok-new-in-Chain-clause-written
bind_expression-returns-in_ok-new-in-Chain-clause-written t c =
    chain_alike c.in_ok-new-in-Chain.field-0 c.in_ok-operations-in-Chain.operations c.args.expression.now c.in-Chain.first c.in-Chain.operations c.in-Chain.is
    (ap (λ f. named (bound_of f)) c.in_ok-new-in-Chain.ensures ∙ c.in_ok-first-in-Chain.ensures.written ∙ ap expression_of c.get-in-Chain.ensures)
    (operations_alike _ _ c.in_ok-operations-in-Chain.ensures.written ∙ ap (λ os. operations_of (map applied_of os)) c.as_slice-in-Chain.ensures)

pub bind_inner-returns-clause-bound : goal.bind_inner-returns-clause-bound
bind_inner-returns-clause-bound t c =
    let vs = variables_of c.args.scope.now in
    inner_bound _ c.in_ok-scope.field-0.ranges c.in_ok-condition.condition c.args.tables.now vs _
    (ap variables_of c.in_ok-scope.ensures.scope ∙ variables_behind _ c.args.scope.now ∙ ap (λ ss. vs ++ ss) (sym c.in_ok-scope.ensures.written))
    c.in_ok-scope.ensures.relations c.in_ok-condition.ensures.bound

pub bind_expression-returns-in_ok-inner-in-Statistic-clause-bound : goal.bind_expression-returns-in_ok-inner-in-Statistic-clause-bound
bind_expression-returns-in_ok-inner-in-Statistic-clause-bound t c =
    let vs = variables_of c.args.scope.now in
    let tables = c.args.tables.now in
    let opened = c.in_ok-scope-in-Statistic in
    let whole = statistic_bound c.in-Statistic.kind c.in_ok-operand-in-Statistic.operand _ opened.field-0.ranges c.in_ok-condition-in-Statistic.condition tables vs _
    (ap variables_of opened.ensures.scope ∙ variables_behind _ c.args.scope.now ∙ ap (λ ss. vs ++ ss) (sym opened.ensures.written))
    c.in_ok-operand-in-Statistic.ensures.bound opened.ensures.relations c.in_ok-condition-in-Statistic.ensures.bound in
    subst (λ o. IsBound (bound_of (tree.Statistic c.in-Statistic.kind o c.in_ok-inner-in-Statistic.inner)) tables vs) (sym c.in_ok-operand-in-Statistic-2.ensures)
    (subst (λ i. IsBound (bound_of (tree.Statistic c.in-Statistic.kind c.in_ok-operand-in-Statistic.operand i)) tables vs) (sym c.in_ok-inner-in-Statistic.ensures) whole)
