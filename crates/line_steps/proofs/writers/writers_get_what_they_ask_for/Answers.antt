use Rattle.line_steps.proofs.Wants.{takes-locks, wants-all, wants-got}
use Rattle.line_steps.proofs.writers.writers_get_what_they_ask_for.Goals as goal

pub returns-clause-locks : goal.returns-clause-locks
returns-clause-locks g c = takes-locks g.S.Statements.stands g.met.S.Statements.orderly

pub returns-clause-asked : goal.returns-clause-asked
returns-clause-asked g c = wants-all g.S.Statements.stands g.met.S.Statements.orderly

pub returns-clause-got : goal.returns-clause-got
returns-clause-got g c = wants-got g.S.Statements.stands g.met.S.Statements.orderly
