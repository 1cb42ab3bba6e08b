use Rattle.stage_steps.proofs.Failing.{still-there}
use Rattle.stage_steps.proofs.storing.work_on.Goals as goal

pub returns-in-Err-clause-does : goal.returns-in-Err-clause-does
returns-in-Err-clause-does g c = still-there c.args.s.number _ _ _ _ c.requires.plain c.in-Err.ensures.comes
