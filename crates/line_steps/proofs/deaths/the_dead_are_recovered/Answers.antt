use Rattle.line_steps.proofs.Dying.{dies, recovers-undone, recovers-committed}
use Rattle.line_steps.proofs.deaths.the_dead_are_recovered.Goals as goal

pub returns-clause-dies : goal.returns-clause-dies
returns-clause-dies g c = dies g.S.Statements.stands g.met.S.Statements.orderly

pub returns-clause-undone : goal.returns-clause-undone
returns-clause-undone g c = recovers-undone g.S.Statements.stands g.met.S.Statements.orderly

pub returns-clause-committed : goal.returns-clause-committed
returns-clause-committed g c = recovers-committed g.S.Statements.stands g.met.S.Statements.orderly
