use Rattle.std.proofs.Common.{◌≡◌, ◌∙◌, sym, ap, map, rules}
use Rattle.std.proofs.lemmas.Result.{err_from_is_err_and}
use Rattle.rdb_meaning.specs.Numbers.{overflow}
use Rattle.rdo_arithmetic.proofs.Exits.{gives_exit}
use Rattle.rdo_values.specs.declared.bound.BoundExpression as tree
use Rattle.rdo_values.specs.Views.{expression_of, operations_of, applied_of}
use Rattle.rdo_values.specs.Filled.{value_at}
use Rattle.rdo_values.proofs.Chains.{chained, chained_more, chained_operand, chained_overflow, overflow_stays, operand_settled}
use Rattle.rdo_values.proofs.expression.+values.Goals as goal

pub chain_value-value_of-requires : goal.chain_value-value_of-requires
chain_value-value_of-requires t c = (
  search (rules, tree.the_lemmas),
  operand_settled c.args.operations.now c.loop-operation.operation-index c.operation-item.result c.requires c.loop-operation-test.true c.operation-item.is,
)

pub chain_value-loop-operation-preserved : goal.chain_value-loop-operation-preserved
chain_value-loop-operation-preserved t c =
    chained_more _ _ _ c.operation-item.result _ _ _ _ c.loop-operation-test.true c.operation-item.is c.loop-operation.invariant c.in_ok-operand.ensures c.in_ok-value.ensures

pub chain_value-returns-in_err-operand : goal.chain_value-returns-in_err-operand
chain_value-returns-in_err-operand t c =
    let p = err_from_is_err_and c.from_residual.result c.from_residual.ensures.1 in
    rw (p.1, p.2) (gives_exit _ _ _ c.in_err-operand.ensures
    (chained_operand _ _ _ c.operation-item.result _ _ c.loop-operation-test.true c.operation-item.is c.loop-operation.invariant))

pub chain_value-returns-in_err-value : goal.chain_value-returns-in_err-value
chain_value-returns-in_err-value t c =
    let p = err_from_is_err_and c.from_residual-in_err-value.result c.from_residual-in_err-value.ensures.1 in
    rw (p.1, p.2) (gives_exit _ _ _ c.in_err-value.ensures
    (chained_overflow _ _ _ c.operation-item.result _ _ _ c.loop-operation-test.true c.operation-item.is c.loop-operation.invariant c.in_ok-operand.ensures))

pub value_of-returns-in_err-first-in-Chain : goal.value_of-returns-in_err-first-in-Chain
value_of-returns-in_err-first-in-Chain t c =
    let p = err_from_is_err_and c.from_residual-in_err-first-in-Chain.result c.from_residual-in_err-first-in-Chain.ensures.1 in
    rw (p.1, p.2) (gives_exit _ _ _ c.in_err-first-in-Chain.ensures (λ e.
    let rows = c.args.rows.now in
    let first : value_at rows (expression_of c.in-Chain.first) ≡ overflow = ap (λ e. value_at rows (expression_of e)) (sym c.get-in-Chain.ensures) ∙ e in
    let rest : chained rows overflow c.in-Chain.operations ≡ overflow = overflow_stays rows (operations_of (map applied_of c.in-Chain.operations)) in
    let is = c.in-Chain.is in
    let whole : value_at rows (expression_of c.args.expr.now) ≡ chained rows (value_at rows (expression_of c.in-Chain.first)) c.in-Chain.operations = search (rules, tree.the_lemmas) in
    whole ∙ ap (λ v. chained rows v c.in-Chain.operations) first ∙ rest))
