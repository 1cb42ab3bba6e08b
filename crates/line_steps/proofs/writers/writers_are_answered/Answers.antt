use Rattle.line_steps.proofs.Saying.{answers-writing, refuses-writing}
use Rattle.line_steps.proofs.Starting.{start-worked, start-excused}
use Rattle.line_steps.proofs.writers.writers_are_answered.Goals as goal

pub returns-clause-answered : goal.returns-clause-answered
returns-clause-answered g c = answers-writing g.S.Statements.stands g.met.S.Statements.orderly

pub returns-clause-refused : goal.returns-clause-refused
returns-clause-refused g c = refuses-writing g.S.Statements.stands g.met.S.Statements.orderly

pub returns-clause-start_answered : goal.returns-clause-start_answered
returns-clause-start_answered g c = start-worked g.S.Statements.stands g.met.S.Statements.orderly

pub returns-clause-start_refused : goal.returns-clause-start_refused
returns-clause-start_refused g c = start-excused g.S.Statements.stands g.met.S.Statements.orderly
