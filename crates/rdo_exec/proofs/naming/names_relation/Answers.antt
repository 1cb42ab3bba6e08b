use Rattle.std.proofs.Common.{refl}
use Rattle.rdo_exec.proofs.NamedRelations.{for_names, for_unranged}
use Rattle.rdo_exec.proofs.naming.names_relation.Goals as goal

pub returns-in-For-clause-named : goal.returns-in-For-clause-named
returns-in-For-clause-named c = λ some. for_names c.args.action.now c.in-For.selection c.in-For.field-1 c.in-For.field-1 c.in-For.is refl (c.is_ranging.ensures.named some)

pub returns-in-For-clause-ranges : goal.returns-in-For-clause-ranges
returns-in-For-clause-ranges c = λ none bare. for_unranged c.args.action.now c.in-For.selection c.in-For.field-1 c.in-For.is (c.is_ranging.ensures.ranges none)
