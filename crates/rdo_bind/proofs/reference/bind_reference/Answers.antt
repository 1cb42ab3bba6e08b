use Rattle.std.proofs.Common.{◌∙◌, sym, ap, option_map}
use Rattle.rdo_values.specs.declared.bound.BoundReference.{BoundReference}
use Rattle.rdo_bind.specs.Answers.{place_of}
use Rattle.rdo_bind.proofs.Locating.{names_unlocated, names_located, refused_as}
use Rattle.rdo_bind.proofs.reference.bind_reference.Goals as goal

pub returns-in_default-clause-names : goal.returns-in_default-clause-names
returns-in_default-clause-names c =
    refused_as BoundReference c.unknown_name.result _ _ c.unknown_name.ensures
    (names_unlocated c.args.tables.now c.args.reference.now c.args.scope.now (sym c.in_ok-at.ensures ∙ ap (option_map place_of) c.in_default.is))

pub returns-clause-names : goal.returns-clause-names
returns-clause-names c =
    names_located c.args.tables.now c.args.reference.now c.args.scope.now (place_of c.in-Some.at) (sym c.in_ok-at.ensures ∙ ap (option_map place_of) c.in-Some.is)
