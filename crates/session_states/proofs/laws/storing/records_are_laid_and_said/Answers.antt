use Rattle.session_states.proofs.Storing.{breaks-on, changes-on, says-laid, says-at-once}
use Rattle.session_states.proofs.laws.storing.records_are_laid_and_said.Goals as goal

pub returns-clause-laid : goal.returns-clause-laid
returns-clause-laid g c = changes-on g.S.Statements.stands g.met.S.Statements.orderly

pub returns-clause-said : goal.returns-clause-said
returns-clause-said g c = says-laid g.S.Statements.stands g.met.S.Statements.orderly

pub returns-clause-broken : goal.returns-clause-broken
returns-clause-broken g c = breaks-on g.S.Statements.stands g.met.S.Statements.orderly

pub returns-clause-said_at_once : goal.returns-clause-said_at_once
returns-clause-said_at_once g c = says-at-once g.S.Statements.stands g.met.S.Statements.orderly
