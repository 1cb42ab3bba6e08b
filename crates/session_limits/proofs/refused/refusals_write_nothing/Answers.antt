use Rattle.session_limits.proofs.AtOnce.{undone-on}
use Rattle.session_limits.proofs.refused.refusals_write_nothing.Goals as goal

pub returns : goal.returns
returns g c = undone-on g.S.Statements.stands g.met.S.Statements.orderly
