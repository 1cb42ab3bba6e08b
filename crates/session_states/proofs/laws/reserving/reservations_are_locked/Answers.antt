use Rattle.session_states.proofs.Reserving.{reserves-on, reserved-on, all-reserved}
use Rattle.session_states.proofs.laws.reserving.reservations_are_locked.Goals as goal

pub returns-clause-reserves : goal.returns-clause-reserves
returns-clause-reserves g c = reserves-on g.S.Statements.stands g.met.S.Statements.orderly

pub returns-clause-reserved : goal.returns-clause-reserved
returns-clause-reserved g c = reserved-on g.S.Statements.stands g.met.S.Statements.orderly

pub returns-clause-all_got : goal.returns-clause-all_got
returns-clause-all_got g c = all-reserved g.S.Statements.stands g.met.S.Statements.orderly
