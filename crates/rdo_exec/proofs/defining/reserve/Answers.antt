use Rattle.std.proofs.Common.{◌∙◌, [], sym, ap, subst}
use Rattle.rdo_ast.specs.declared.reply.Standing.TheVariants.{Closed}
use Rattle.rdo_ast.specs.declared.syntax.Reservation.{Reservation}
use Rattle.std.proofs.Common.{List}
use Rattle.rdo_ast.specs.Tree.{said, start_read_write}
use Rattle.rdb_meaning.specs.Meaning.{reserved_names}
use Rattle.line_view.specs.Held.{knows}
use Rattle.session_jobs.specs.declared.jobs.Found.{Found}
use Rattle.rdo_exec.specs.Coming.{Asks, Comes}
use Rattle.rdo_exec.proofs.Answered.{unread, unchecked_comes, finds_refused}
use Rattle.rdo_exec.proofs.Locks.{unread_asks}
use Rattle.rdo_exec.proofs.Starting.{reserving_asks, reserves_comes, unreserved}
use Rattle.rdo_exec.proofs.defining.reserve.Goals as goal

pub returns-in-Err-clause-asked : goal.returns-in-Err-clause-asked
returns-in-Err-clause-asked c =
    let a = c.args in
    subst (λ (f : Found). Asks Closed (said (start_read_write a.wait a.reserved.now)) (knows a.known.now) f) (sym c.stopped.ensures)
    (unread_asks Closed (said (start_read_write a.wait a.reserved.now)) (knows a.known.now) c.in-Err.stop (λ t. reserving_asks a.wait a.reserved.now t c.requires) c.in-Err.ensures.stop)

pub returns-in-Err-clause-comes : goal.returns-in-Err-clause-comes
returns-in-Err-clause-comes c = λ word.
    let a = c.args in
    subst (λ (f : Found). Comes word Closed (said (start_read_write a.wait a.reserved.now)) (knows a.known.now) f) (sym c.stopped.ensures)
    (unread word Closed (said (start_read_write a.wait a.reserved.now)) (knows a.known.now) c.in-Err.stop c.in-Err.ensures.stop)

pub returns-in-Ok-check_reserved_names-clause-comes : goal.returns-in-Ok-check_reserved_names-clause-comes
returns-in-Ok-check_reserved_names-clause-comes c = λ word.
    let a = c.args in
    subst (λ (f : Found). Comes word Closed (said (start_read_write a.wait a.reserved.now)) (knows a.known.now) f) (sym c.answered_by.ensures)
    (reserves_comes word c.in-Ok.catalog (knows a.known.now) a.wait a.reserved.now c.done.result c.read_write.result c.in-Ok.ensures.catalog
    (ap (λ (rs : List Reservation). reserved_names [] rs (c.in-Ok.catalog).tables) (sym c.as_slice.ensures) ∙ c.in-Ok-check_reserved_names.ensures) c.done.ensures c.read_write.ensures)

pub returns-clause-comes : goal.returns-clause-comes
returns-clause-comes c = λ word.
    let a = c.args in
    unchecked_comes word Closed (said (start_read_write a.wait a.reserved.now)) (knows a.known.now) c.in-Err-check_reserved_names.stop c.unchecked.result c.unchecked.ensures
    (λ reply is. unreserved word c.in-Ok.catalog (knows a.known.now) c.in-Ok.ensures.catalog a.wait a.reserved.now reply
    (ap (λ (rs : List Reservation). reserved_names [] rs (c.in-Ok.catalog).tables) (sym c.as_slice.ensures) ∙ finds_refused c.in-Err-check_reserved_names.stop (reserved_names [] c.as_slice.result.now (c.in-Ok.catalog).tables) reply c.in-Err-check_reserved_names.ensures is))
