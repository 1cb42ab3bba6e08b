use Rattle.std.proofs.Common.{arith}
use Rattle.drive_cases.proofs.TalkSteps.{slept_step, stopped_step}
use Rattle.drive_cases.proofs.talk.Talk.second_goes_on.Goals as goal

pub returns-then-self-gt0 : goal.returns-then-self-gt0
returns-then-self-gt0 c = slept_step _ _ _ _ (omega arith) (omega arith)

pub returns-in-Err : goal.returns-in-Err
returns-in-Err c = rw c.in-Err.ensures.items (stopped_step _ _ _ _ _)
