use Rattle.std.proofs.Common.{◌-◌, ◌≤◌, arith, ◌∙◌}
use Rattle.std.specs.Int.{w64, w128}
use Rattle.std.proofs.lemmas.Int.{to_z-of_z}
use Rattle.rdo_arithmetic.proofs.Scales.{code_product, product_fits, product_small}
use Rattle.rdo_arithmetic.proofs.numbers.brought.Goals as goal

pub overflow_mul-result : goal.overflow_mul-result
overflow_mul-result c =
    let h : c.args.to - c.args.from ≤ 18 = omega arith in
    rw (code_product _ _ c.args.n (c.args.to - c.args.from) (c.from.ensures ∙ to_z-of_z w64 _ c.ranges.n) c.power_of_ten.ensures c.ranges.n h) (product_fits c.args.n _ c.ranges.n h)

pub returns-clause-value : goal.returns-clause-value
returns-clause-value c =
    let h : c.args.to - c.args.from ≤ 18 = omega arith in
    rw (code_product _ _ c.args.n (c.args.to - c.args.from) (c.from.ensures ∙ to_z-of_z w64 _ c.ranges.n) c.power_of_ten.ensures c.ranges.n h)
    (to_z-of_z w128 _ (product_fits c.args.n _ c.ranges.n h))

pub returns-clause-small : goal.returns-clause-small
returns-clause-small c =
    let h : c.args.to - c.args.from ≤ 18 = omega arith in
    rw (code_product _ _ c.args.n (c.args.to - c.args.from) (c.from.ensures ∙ to_z-of_z w64 _ c.ranges.n) c.power_of_ten.ensures c.ranges.n h, to_z-of_z w128 _ (product_fits c.args.n _ c.ranges.n h))
    (product_small c.args.n _ c.ranges.n h)
