use Rattle.line_steps.proofs.Reading.{begins-reading, takes-up-reading, learns-reading, reader-commits, reader-copies}
use Rattle.line_steps.proofs.Saying.{answers-reading, refuses-reading}
use Rattle.line_steps.proofs.readers.readers_step.Goals as goal

pub returns-clause-begins : goal.returns-clause-begins
returns-clause-begins g c = begins-reading g.S.Statements.stands g.met.S.Statements.orderly

pub returns-clause-takes_up : goal.returns-clause-takes_up
returns-clause-takes_up g c = takes-up-reading g.S.Statements.stands g.met.S.Statements.orderly

pub returns-clause-learns : goal.returns-clause-learns
returns-clause-learns g c = learns-reading g.S.Statements.stands g.met.S.Statements.orderly

pub returns-clause-answered : goal.returns-clause-answered
returns-clause-answered g c = answers-reading g.S.Statements.stands g.met.S.Statements.orderly

pub returns-clause-refused : goal.returns-clause-refused
returns-clause-refused g c = refuses-reading g.S.Statements.stands g.met.S.Statements.orderly

pub returns-clause-commits : goal.returns-clause-commits
returns-clause-commits g c = reader-commits g.S.Statements.stands g.met.S.Statements.orderly

pub returns-clause-copies : goal.returns-clause-copies
returns-clause-copies g c = reader-copies g.S.Statements.stands g.met.S.Statements.orderly
