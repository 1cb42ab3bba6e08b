use Rattle.session_states.proofs.Dying.{dies-on, recovers-more, recovers-on, recovers-commit}
use Rattle.session_states.proofs.laws.dying.the_dead_are_recovered.Goals as goal

pub returns-clause-dies : goal.returns-clause-dies
returns-clause-dies g c = dies-on g.S.Statements.stands g.met.S.Statements.orderly

pub returns-clause-goes_on : goal.returns-clause-goes_on
returns-clause-goes_on g c = recovers-more g.S.Statements.stands g.met.S.Statements.orderly

pub returns-clause-undone : goal.returns-clause-undone
returns-clause-undone g c = recovers-on g.S.Statements.stands g.met.S.Statements.orderly

pub returns-clause-committed : goal.returns-clause-committed
returns-clause-committed g c = recovers-commit g.S.Statements.stands g.met.S.Statements.orderly
