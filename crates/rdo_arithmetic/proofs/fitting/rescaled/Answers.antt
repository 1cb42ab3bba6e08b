use Rattle.std.proofs.Common.{◌-◌, ◌∙◌, arith}
use Rattle.std.specs.Int.{w64}
use Rattle.std.proofs.lemmas.Int.{to_z-of_z}
use Rattle.rdo_arithmetic.proofs.Scales.{may_divide}
use Rattle.rdo_arithmetic.proofs.fitting.rescaled.Goals as goal

pub nonzero_div-result : goal.nonzero_div-result
nonzero_div-result c =
    may_divide _ _ c.args.n (c.args.from - c.args.to) (c.from.ensures ∙ to_z-of_z w64 _ c.ranges.n) c.power_of_ten.ensures c.ranges.n (omega arith)
