use Rattle.drive_cases.proofs.TalkSteps.{no_recovery}
use Rattle.drive_cases.proofs.talk.TalkDriven.recover_step.Goals as goal

pub returns : goal.returns
returns c = no_recovery _ _ _ _
