use Rattle.std.proofs.Common.{rules}
use Rattle.rdo_values.specs.declared.bound.BoundExpression as tree
use Rattle.access_paths.proofs.Steps.{between_unequated}
use Rattle.access_paths.proofs.equated.equated_by_test.Goals as goal

pub returns-in_default : goal.returns-in_default
returns-in_default c = search (rules, tree.the_lemmas, between_unequated)
