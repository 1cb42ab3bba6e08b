use Rattle.std.proofs.Common.{◌∙◌, sym, ap, subst}
use Rattle.rdo_arithmetic.specs.Answers.{Gives}
use Rattle.rdo_values.specs.Views.{expression_of}
use Rattle.rdo_values.specs.Filled.{value_at}
use Rattle.rdo_values.proofs.Filling.{filled_value}
use Rattle.rdo_values.proofs.expression.value.Goals as goal

pub returns-clause-named : goal.returns-clause-named
returns-clause-named c t scope bound known rows =
    subst (Gives c.value_of.result)
    (ap (λ rows. value_at rows (expression_of c.args.expr.now)) (sym rows) ∙ filled_value t scope (expression_of c.args.expr.now) c.requires bound known)
    c.value_of.ensures
