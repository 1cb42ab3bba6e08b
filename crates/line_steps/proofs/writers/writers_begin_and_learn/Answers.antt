use Rattle.line_steps.proofs.Taking.{begins-writing, takes-up, learns, notice-served}
use Rattle.line_steps.proofs.writers.writers_begin_and_learn.Goals as goal

pub returns-clause-begins : goal.returns-clause-begins
returns-clause-begins g c = begins-writing g.S.Statements.stands g.met.S.Statements.orderly

pub returns-clause-takes_up : goal.returns-clause-takes_up
returns-clause-takes_up g c = takes-up g.S.Statements.stands g.met.S.Statements.orderly

pub returns-clause-learns : goal.returns-clause-learns
returns-clause-learns g c = learns g.S.Statements.stands g.met.S.Statements.orderly

pub returns-clause-notice : goal.returns-clause-notice
returns-clause-notice g c = notice-served g.S.Statements.stands g.met.S.Statements.orderly
