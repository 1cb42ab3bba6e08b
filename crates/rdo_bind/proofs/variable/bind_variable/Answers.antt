use Rattle.std.proofs.Common.{◌∙◌, sym, ap, option_map}
use Rattle.rdo_bind.specs.declared.variable.BoundVariable.{BoundVariable}
use Rattle.rdo_bind.specs.Variables.{place_of}
use Rattle.rdo_bind.proofs.Locating.{refused_as}
use Rattle.rdo_bind.proofs.Variables.{unbound, bound}
use Rattle.rdo_bind.proofs.variable.bind_variable.Goals as goal

pub returns-in_default-clause-names : goal.returns-in_default-clause-names
returns-in_default-clause-names c =
    refused_as BoundVariable c.no_such_name.result _ _ c.no_such_name.ensures
    (unbound c.args.tables.now c.args.variable.now c.args.scope.now (sym c.in_ok-at.ensures ∙ ap (option_map place_of) c.in_default.is))

pub returns-clause-names : goal.returns-clause-names
returns-clause-names c =
    bound c.args.tables.now c.args.variable.now c.args.scope.now (place_of c.in-Some.at) (sym c.in_ok-at.ensures ∙ ap (option_map place_of) c.in-Some.is)
