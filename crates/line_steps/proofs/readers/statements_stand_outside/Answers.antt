use Rattle.line_steps.proofs.Outside.{answers-outside}
use Rattle.line_steps.proofs.readers.statements_stand_outside.Goals as goal

pub returns : goal.returns
returns g c = answers-outside g.S.Statements.stands g.met.S.Statements.orderly
