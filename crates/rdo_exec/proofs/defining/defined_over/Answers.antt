use Rattle.std.proofs.Common.{sym, subst}
use Rattle.rdo_ast.specs.declared.syntax.Statement.{Statement}
use Rattle.rdo_ast.specs.Tree.{said, define_relation}
use Rattle.rdo_ast.specs.Views.{command_of}
use Rattle.line_view.specs.Held.{knows}
use Rattle.rdo_exec.specs.Coming.{Comes, Asks}
use Rattle.rdo_exec.proofs.defining.defined_over.Goals as goal

pub returns-in-DefineField-clause-comes : goal.returns-in-DefineField-clause-comes
returns-in-DefineField-clause-comes c = λ word.
    subst (λ (s : Statement). Comes word c.args.standing.now (said (command_of s)) (knows c.args.known.now) c.field_defined.result) (sym c.in-DefineField.is) (c.field_defined.ensures.comes word)

pub returns-in-DefineRelation-clause-comes : goal.returns-in-DefineRelation-clause-comes
returns-in-DefineRelation-clause-comes c = λ word.
    subst (λ (s : Statement). Comes word c.args.standing.now (said (command_of s)) (knows c.args.known.now) c.relation_defined.result) (sym c.in-DefineRelation.is)
    (subst (λ fs. Comes word c.args.standing.now (said (define_relation c.in-DefineRelation.name fs)) (knows c.args.known.now) c.relation_defined.result) c.as_slice.ensures (c.relation_defined.ensures.comes word))

pub returns-in-DeleteRelation-clause-comes : goal.returns-in-DeleteRelation-clause-comes
returns-in-DeleteRelation-clause-comes c = λ word.
    subst (λ (s : Statement). Comes word c.args.standing.now (said (command_of s)) (knows c.args.known.now) c.relation_deleted.result) (sym c.in-DeleteRelation.is) (c.relation_deleted.ensures.comes word)

pub returns-in-DeleteIndex-clause-comes : goal.returns-in-DeleteIndex-clause-comes
returns-in-DeleteIndex-clause-comes c = λ word.
    subst (λ (s : Statement). Comes word c.args.standing.now (said (command_of s)) (knows c.args.known.now) c.index_deleted.result) (sym c.in-DeleteIndex.is) (c.index_deleted.ensures.comes word)

pub returns-in-DefineIndex-clause-comes : goal.returns-in-DefineIndex-clause-comes
returns-in-DefineIndex-clause-comes c = λ word.
    subst (λ (s : Statement). Comes word c.args.standing.now (said (command_of s)) (knows c.args.known.now) c.index_defined.result) (sym c.in-DefineIndex.is) (c.index_defined.ensures.comes word)

pub returns-in-DefineField-clause-asked : goal.returns-in-DefineField-clause-asked
returns-in-DefineField-clause-asked c = subst (λ (s : Statement). Asks c.args.standing.now (said (command_of s)) (knows c.args.known.now) c.field_defined.result) (sym c.in-DefineField.is) c.field_defined.ensures.asked

pub returns-in-DefineRelation-clause-asked : goal.returns-in-DefineRelation-clause-asked
returns-in-DefineRelation-clause-asked c = subst (λ (s : Statement). Asks c.args.standing.now (said (command_of s)) (knows c.args.known.now) c.relation_defined.result) (sym c.in-DefineRelation.is) (subst (λ fs. Asks c.args.standing.now (said (define_relation c.in-DefineRelation.name fs)) (knows c.args.known.now) c.relation_defined.result) c.as_slice.ensures c.relation_defined.ensures.asked)

pub returns-in-DeleteRelation-clause-asked : goal.returns-in-DeleteRelation-clause-asked
returns-in-DeleteRelation-clause-asked c = subst (λ (s : Statement). Asks c.args.standing.now (said (command_of s)) (knows c.args.known.now) c.relation_deleted.result) (sym c.in-DeleteRelation.is) c.relation_deleted.ensures.asked

pub returns-in-DeleteIndex-clause-asked : goal.returns-in-DeleteIndex-clause-asked
returns-in-DeleteIndex-clause-asked c = subst (λ (s : Statement). Asks c.args.standing.now (said (command_of s)) (knows c.args.known.now) c.index_deleted.result) (sym c.in-DeleteIndex.is) c.index_deleted.ensures.asked

pub returns-in-DefineIndex-clause-asked : goal.returns-in-DefineIndex-clause-asked
returns-in-DefineIndex-clause-asked c = subst (λ (s : Statement). Asks c.args.standing.now (said (command_of s)) (knows c.args.known.now) c.index_defined.result) (sym c.in-DefineIndex.is) c.index_defined.ensures.asked
