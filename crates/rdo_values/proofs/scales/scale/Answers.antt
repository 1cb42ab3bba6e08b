use Rattle.std.proofs.Common.{min, ◌∙◌, ap}
use Rattle.rdo_values.specs.Views.{expression_of}
use Rattle.rdo_values.proofs.ScaleNames.{scale_named}
use Rattle.rdo_values.proofs.scales.scale.Goals as goal

pub returns-clause-named : goal.returns-clause-named
returns-clause-named c t scope bound = c.scale_of.ensures ∙ ap (λ n. min n 19) (scale_named (expression_of c.args.expr.now) t scope bound)
