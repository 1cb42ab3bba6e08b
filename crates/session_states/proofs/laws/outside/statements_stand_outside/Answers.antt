use Rattle.session_states.proofs.Outside.{answers-on, forgoes-outside}
use Rattle.session_states.proofs.laws.outside.statements_stand_outside.Goals as goal

pub returns-clause-answered : goal.returns-clause-answered
returns-clause-answered g c = answers-on g.S.Statements.stands g.met.S.Statements.orderly

pub returns-clause-forgone : goal.returns-clause-forgone
returns-clause-forgone g c = forgoes-outside g.S.Statements.stands g.met.S.Statements.orderly
