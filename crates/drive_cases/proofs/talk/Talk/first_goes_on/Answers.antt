use Rattle.std.proofs.Common.{arith}
use Rattle.drive_cases.proofs.TalkSteps.{worked_step, answered_step, stopped_step}
use Rattle.drive_cases.proofs.talk.Talk.first_goes_on.Goals as goal

pub returns-then-self-eq0-2 : goal.returns-then-self-eq0-2
returns-then-self-eq0-2 c = worked_step _ _ _ _ _ _ _ (omega arith)

pub returns-in-Ok : goal.returns-in-Ok
returns-in-Ok c = rw c.in-Ok.ensures.items (answered_step _ _ _ _ _ _ _ (omega arith) (omega arith) (omega arith))

pub returns-in-Err : goal.returns-in-Err
returns-in-Err c = rw c.in-Err.ensures.items (stopped_step _ _ _ _ _)
