use Rattle.line_steps.proofs.Ending.{commits, rolls-back, ends}
use Rattle.line_steps.proofs.writers.transactions_end.Goals as goal

pub returns-clause-commits : goal.returns-clause-commits
returns-clause-commits g c = commits g.S.Statements.stands g.met.S.Statements.orderly

pub returns-clause-rolls_back : goal.returns-clause-rolls_back
returns-clause-rolls_back g c = rolls-back g.S.Statements.stands g.met.S.Statements.orderly

pub returns-clause-script_ends : goal.returns-clause-script_ends
returns-clause-script_ends g c = ends g.S.Statements.stands g.met.S.Statements.orderly
