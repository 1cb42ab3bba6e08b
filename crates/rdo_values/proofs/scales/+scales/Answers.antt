use Rattle.std.proofs.Common.{◌≡◌, min, ◌∙◌, sym, ap, rules, arith}
use Rattle.rdo_values.specs.declared.bound.BoundExpression as tree
use Rattle.rdo_values.specs.Views.{expression_of}
use Rattle.rdo_values.specs.Scales.{scale_in}
use Rattle.rdo_values.proofs.ScaleChains.{chain_scale, chain_more, cut_chain}
use Rattle.rdo_values.proofs.scales.+scales.Goals as goal

pub chain_scale-loop-operation-preserved : goal.chain_scale-loop-operation-preserved
chain_scale-loop-operation-preserved t c =
    let inv = c.loop-operation.invariant in
    let scale = c.operated_scale-scale.ensures in
    record {
      small = omega arith;
      whole = chain_more c.args.operations.now c.loop-operation.operation-index c.operation-item.result _ c.loop-operation.scale c.scale_of-operand.result c.operated_scale-scale.result
          c.loop-operation-test.true c.operation-item.is inv.whole c.scale_of-operand.ensures scale;
    }

pub scale_of-returns-in-Chain : goal.scale_of-returns-in-Chain
scale_of-returns-in-Chain t c =
    let is = c.in-Chain.is in
    let whole : scale_in (expression_of c.args.expr.now) ≡ chain_scale (scale_in (expression_of c.in-Chain.first)) c.in-Chain.operations = search (rules, tree.the_lemmas) in
    let first : c.scale_of-first.result ≡ min (scale_in (expression_of c.in-Chain.first)) 19 =
    c.scale_of-first.ensures ∙ ap (λ e. min (scale_in (expression_of e)) 19) c.get-in-Chain.ensures in
    let cut = cut_chain c.scale_of-first.result (scale_in (expression_of c.in-Chain.first)) c.in-Chain.operations first in
    c.chain_scale.ensures ∙ ap (λ os. min (chain_scale c.scale_of-first.result os) 19) c.as_slice.ensures ∙ sym cut ∙ ap (λ n. min n 19) (sym whole)
