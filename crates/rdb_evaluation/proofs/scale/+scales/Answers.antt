use Rattle.std.proofs.Common.{◌≡◌, ◌≤◌, min, ◌∙◌, sym, ap, subst, IfOk, rules, arith}
use Rattle.rdo_ast.specs.declared.syntax.Expression as tree
use Rattle.rdo_ast.specs.Views.{expression_of}
use Rattle.rdb_meaning.specs.Evaluation.{scale_of}
use Rattle.rdb_evaluation.proofs.Scales.{chain_scale, chain_more, cut_chain}
use Rattle.rdb_evaluation.proofs.scale.+scales.Goals as goal

pub chain_scale-loop-operation-preserved : goal.chain_scale-loop-operation-preserved
chain_scale-loop-operation-preserved t c =
    let inv = c.loop-operation.invariant in
    let scale = c.operated_scale-scale.ensures in
    record {
      small = omega arith;
      whole = chain_more c.args.tables.now c.args.scope.now c.args.operations.now c.loop-operation.operation-index c.operation-item.result _ c.loop-operation.scale c.in_ok-operand.operand c.operated_scale-scale.result
          c.loop-operation-test.true c.operation-item.is inv.whole c.in_ok-operand.ensures scale;
    }

pub scale_of-returns-in_ok-first-in-Chain : goal.scale_of-returns-in_ok-first-in-Chain
scale_of-returns-in_ok-first-in-Chain t c =
    let is = c.in-Chain.is in
    let whole : scale_of (expression_of c.args.expr.now) c.args.tables.now c.args.scope.now ≡ chain_scale c.args.tables.now c.args.scope.now (scale_of (expression_of c.in-Chain.first) c.args.tables.now c.args.scope.now) c.in-Chain.operations = search (rules, tree.the_lemmas) in
    let first : c.in_ok-first-in-Chain.first ≡ min (scale_of (expression_of c.in-Chain.first) c.args.tables.now c.args.scope.now) 19 =
    c.in_ok-first-in-Chain.ensures ∙ ap (λ e. min (scale_of (expression_of e) c.args.tables.now c.args.scope.now) 19) c.get-in-Chain.ensures in
    let cut = cut_chain c.args.tables.now c.args.scope.now c.in_ok-first-in-Chain.first (scale_of (expression_of c.in-Chain.first) c.args.tables.now c.args.scope.now) c.in-Chain.operations first in
    subst (λ n. IfOk c.chain_scale.result (λ s. s ≡ n))
    (ap (λ os. min (chain_scale c.args.tables.now c.args.scope.now c.in_ok-first-in-Chain.first os) 19) c.as_slice.ensures ∙ sym cut ∙ ap (λ n. min n 19) (sym whole))
    c.chain_scale.ensures
