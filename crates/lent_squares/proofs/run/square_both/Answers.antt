use denote.Builtin as Builtin
use denote.Exit.{yes}
use denote.Param.{param}
use denote.Param.Send.{param_send, arg_send, sendable}
use Rattle.lent_values.proofs.Crossing.{loan_send, worked_send}
use Rattle.lent_squares.proofs.square.Square.TheSendSync as square
use Rattle.lent_squares.proofs.Crossing.{office_send}
use Rattle.lent_squares.proofs.run.square_both.Goals as goal

pub work_both-requires-send-X : goal.work_both-requires-send-X
work_both-requires-send-X g c κs within = param_send 1 _ (arg_send _ yes _ (office_send (param 1 g.row.J) g.J.Naming g.J.Asked))

pub work_both-requires-send-X-Piece : goal.work_both-requires-send-X-Piece
work_both-requires-send-X-Piece g c κs within = param_send 2 _ (arg_send _ yes _ (loan_send (param 1 g.row.J) Builtin.u32 g.J.Naming (search sendable)))

pub work_both-requires-send-X-Done : goal.work_both-requires-send-X-Done
work_both-requires-send-X-Done g c κs within = param_send 3 _ (arg_send _ yes _ (worked_send _ _ _ g.J.Naming _ square.the_send))
