use denote.Exit.{yes}
use denote.Param.{param}
use denote.Param.Send.{param_send, arg_send}
use Rattle.session_jobs.specs.contracts.jobs.Job as Job
use Rattle.lent_values.proofs.Crossing.{loan_send, worked_send}
use Rattle.lent_jobs.proofs.Crossing.{job_send, worked_job_send}
use Rattle.line_drive.proofs.Crossing.{driver_send}
use Rattle.line_drive.proofs.run.run_in_threads.Goals as goal

pub drive-driver-requires-send-X : goal.drive-driver-requires-send-X
drive-driver-requires-send-X g c κs within = param_send 1 _ (arg_send _ yes _ (driver_send (param 1 g.row.O) (param 2 g.row.S) (param 3 g.row.L) (param 5 g.row.S-Kept) g.O.Origin g.O.Naming g.S.Statements g.L.LineStore c.type_bounds.send-L))

pub drive-driver-requires-send-X-Piece : goal.drive-driver-requires-send-X-Piece
drive-driver-requires-send-X-Piece g c κs within = param_send 3 _ (arg_send _ yes _ (loan_send (param 1 g.row.O) Job.the_row g.O.Naming job_send))

pub drive-driver-requires-send-X-Done : goal.drive-driver-requires-send-X-Done
drive-driver-requires-send-X-Done g c κs within = param_send 4 _ (arg_send _ yes _ (worked_send _ _ _ g.O.Naming _ (worked_job_send (param 2 g.row.S) (param 5 g.row.S-Kept) g.S.Statements)))

pub drive_in_order-has_ended-requires-send-X-Piece : goal.drive_in_order-has_ended-requires-send-X-Piece
drive_in_order-has_ended-requires-send-X-Piece g c κs within = param_send 2 _ (arg_send _ yes _ (loan_send (param 1 g.row.O) Job.the_row g.O.Naming job_send))

pub drive_in_order-has_ended-requires-send-X-Done : goal.drive_in_order-has_ended-requires-send-X-Done
drive_in_order-has_ended-requires-send-X-Done g c κs within = param_send 3 _ (arg_send _ yes _ (worked_send _ _ _ g.O.Naming _ (worked_job_send (param 2 g.row.S) (param 5 g.row.S-Kept) g.S.Statements)))
