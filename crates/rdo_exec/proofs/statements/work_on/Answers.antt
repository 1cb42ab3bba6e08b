use Rattle.std.proofs.Common.{◌≡◌, None, sym, subst}
use Rattle.rdo_ast.specs.declared.syntax.Item.{Item}
use Rattle.rdo_ast.specs.declared.reply.Standing.TheVariants.{Closed}
use Rattle.rdo_ast.specs.Views.{uttered_of}
use Rattle.rdb_account.specs.Lawful.{first_refusal}
use Rattle.rdb_account.specs.Places.{begins}
use Rattle.line_view.specs.Held.{knows}
use Rattle.rdo_exec.specs.Acted.{IsSettled}
use Rattle.rdo_exec.specs.Coming.{Asks, Comes}
use Rattle.rdo_exec.specs.Needed.{ItemNeeds}
use Rattle.rdo_exec.proofs.statements.work_on.Goals as goal

pub work_statement-requires-clause-standing : goal.work_statement-requires-clause-standing
work_statement-requires-clause-standing c = subst (λ (i : Item). first_refusal c.args.standing.now (uttered_of i) ≡ None) c.in-Statement.is c.requires.standing

pub returns-clause-asked : goal.returns-clause-asked
returns-clause-asked c = subst (λ (i : Item). Asks c.args.standing.now (uttered_of i) (knows c.args.known) c.work_statement.result.found) (sym c.in-Statement.is) c.work_statement.ensures.asked

pub returns-clause-comes : goal.returns-clause-comes
returns-clause-comes c = subst (λ (i : Item). Comes c.args.word.now c.args.standing.now (uttered_of i) (knows c.args.known) c.work_statement.result.found) (sym c.in-Statement.is) c.work_statement.ensures.comes

pub returns-clause-outside : goal.returns-clause-outside
returns-clause-outside c =
    subst (λ (i : Item). c.args.standing.now ≡ Closed → begins (uttered_of i) ≡ None → IsSettled c.work_statement.result.found) (sym c.in-Statement.is) c.work_statement.ensures.outside

pub returns-clause-needs : goal.returns-clause-needs
returns-clause-needs c = subst (λ (i : Item). ItemNeeds (uttered_of i) (knows c.args.known) c.work_statement.result.found) (sym c.in-Statement.is) c.work_statement.ensures.needs
