use Rattle.std.proofs.Common.{◌∙◌}
use Rattle.std.specs.Int.{w64}
use Rattle.std.proofs.lemmas.Int.{to_z-of_z}
use Rattle.rdb_meaning.specs.Numbers.{brought}
use Rattle.rdo_arithmetic.proofs.Scales.{gives_sum}
use Rattle.rdo_arithmetic.proofs.numbers.sum.Goals as goal

pub returns : goal.returns
returns c =
    gives_sum _ _ _ _ _ _ _ c.result.ensures
    (c.brought.ensures.value ∙ (λ i. brought (to_z-of_z w64 _ c.ranges.m i) c.args.s (c.greater-scale.ensures i)))
    (c.brought-2.ensures.value ∙ (λ i. brought (to_z-of_z w64 _ c.ranges.n i) c.args.t (c.greater-scale.ensures i)))
    c.greater-scale.ensures c.brought.ensures.small c.brought-2.ensures.small
