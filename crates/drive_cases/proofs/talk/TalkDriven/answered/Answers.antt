use Rattle.std.proofs.lemmas.Grind.{common_steps}
use Rattle.std.proofs.Common.{arith}
use Rattle.drive_cases.proofs.TalkSteps.{answers_more}
use Rattle.drive_cases.proofs.talk.TalkDriven.answered.Goals as goal

pub loop-number-preserved : goal.loop-number-preserved
loop-number-preserved c =
    let one = answers_more c.args.s.number c.loop-number.number-index _ c.loop-number-test.true in
    grind (arith, common_steps, one)
