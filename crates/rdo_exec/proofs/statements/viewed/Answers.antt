use Rattle.std.proofs.Common.{sym, subst}
use Rattle.rdo_ast.specs.Tree.{said}
use Rattle.rdo_ast.specs.Views.{command_of}
use Rattle.line_view.specs.Held.{knows}
use Rattle.session_jobs.specs.declared.jobs.Found.{Found}
use Rattle.rdo_exec.specs.Coming.{Asks, Comes}
use Rattle.rdo_exec.proofs.Answered.{unread}
use Rattle.rdo_exec.proofs.Locks.{unread_asks, catalog_asks}
use Rattle.rdo_exec.specs.Needed.{ItemNeeds}
use Rattle.rdo_exec.proofs.FirstNeeds.{unread_needs}
use Rattle.rdo_exec.proofs.statements.viewed.Goals as goal

pub returns-in-Err-clause-asked : goal.returns-in-Err-clause-asked
returns-in-Err-clause-asked c =
    let a = c.args in
    let command = command_of c.args.statement.now in
    subst (λ (f : Found). Asks a.standing.now (said command) (knows a.known) f) (sym c.stopped.ensures)
    (unread_asks a.standing.now (said command) (knows a.known) c.in-Err.stop (λ t. catalog_asks a.standing.now command t c.requires.standing c.requires.way) c.in-Err.ensures.stop)

pub returns-in-Err-clause-comes : goal.returns-in-Err-clause-comes
returns-in-Err-clause-comes c = λ word.
    let a = c.args in
    let command = command_of c.args.statement.now in
    subst (λ (f : Found). Comes word a.standing.now (said command) (knows a.known) f) (sym c.stopped.ensures)
    (unread word a.standing.now (said command) (knows a.known) c.in-Err.stop c.in-Err.ensures.stop)

pub returns-in-Err-clause-needs : goal.returns-in-Err-clause-needs
returns-in-Err-clause-needs c =
    let command = command_of c.args.statement.now in
    subst (λ (f : Found). ItemNeeds (said command) (knows c.args.known) f) (sym c.stopped.ensures) (unread_needs command (knows c.args.known) c.in-Err.stop c.in-Err.ensures.stop)
