use Rattle.session_states.proofs.Ending.{rolls-on, leaves-on, rolled-on, left-on, committed-on}
use Rattle.session_states.proofs.laws.endings.transactions_end.Goals as goal

pub returns-clause-undoes : goal.returns-clause-undoes
returns-clause-undoes g c = rolls-on g.S.Statements.stands g.met.S.Statements.orderly

pub returns-clause-leaves : goal.returns-clause-leaves
returns-clause-leaves g c = leaves-on g.S.Statements.stands g.met.S.Statements.orderly

pub returns-clause-undone : goal.returns-clause-undone
returns-clause-undone g c = rolled-on g.S.Statements.stands g.met.S.Statements.orderly

pub returns-clause-over : goal.returns-clause-over
returns-clause-over g c = left-on g.S.Statements.stands g.met.S.Statements.orderly

pub returns-clause-committed : goal.returns-clause-committed
returns-clause-committed g c = committed-on g.S.Statements.stands g.met.S.Statements.orderly
