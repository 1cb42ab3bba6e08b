use Rattle.line_drive.proofs.Turning.{heard-of}
use Rattle.line_drive.proofs.driver.lend_behind.Goals as goal

pub returns-in-Some-clause-heard : goal.returns-in-Some-clause-heard
returns-in-Some-clause-heard g c = (c.in-Moved.is, c.if-count-eq0.true)

pub returns-clause-heard : goal.returns-clause-heard
returns-clause-heard g c = heard-of c.args.turn c.args.count c.step_of.result c.step_of.ensures
