use Rattle.std.proofs.Common.{ap, subst, sym, ◌∙◌}
use denote.Exit.{yes}
use denote.Param.{param}
use denote.Param.Send.{param_send, arg_send}
use Rattle.session_jobs.specs.contracts.jobs.Job as Job
use Rattle.lent_values.proofs.Crossing.{loan_send, worked_send}
use Rattle.lent_jobs.proofs.Crossing.{job_send, worked_job_send}
use Rattle.line_cluster.specs.Turned.{Sessions}
use Rattle.line_drive.specs.Turns.{KeepsTurns}
use Rattle.line_drive.proofs.Ordered.{keeps-turns}
use Rattle.line_drive.proofs.run.run_in_order.Goals as goal

pub drive_in_order-has_ended-requires-send-X-Piece : goal.drive_in_order-has_ended-requires-send-X-Piece
drive_in_order-has_ended-requires-send-X-Piece g c κs within = param_send 2 _ (arg_send _ yes _ (loan_send (param 0 g.row.O) Job.the_row g.O.Naming job_send))

pub drive_in_order-has_ended-requires-send-X-Done : goal.drive_in_order-has_ended-requires-send-X-Done
drive_in_order-has_ended-requires-send-X-Done g c κs within = param_send 3 _ (arg_send _ yes _ (worked_send _ _ _ g.O.Naming _ (worked_job_send (param 1 g.row.S) (param 4 g.row.S-Kept) g.S.Statements)))

pub returns-clause-order : goal.returns-clause-order
returns-clause-order g c whole told =
    subst (λ es. KeepsTurns g.O.Origin.opening g.O.Origin.sessions c.args.order.now es) (sym c.ran_of.ensures.events)
    (keeps-turns g.O.Origin.told g.O.Origin.opening g.O.Origin.sessions c.args.order.now c.new-driver.result c.drive_in_order-has_ended.new.x told (c.ran_of.ensures.going whole) (ap (λ (v : Sessions). v.events) c.new-driver.ensures ∙ c.requires.fresh)
    (c.drive_in_order-has_ended.ensures.order (c.ran_of.ensures.ended whole)))
