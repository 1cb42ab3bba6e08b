use Rattle.line_history.proofs.Transactions.{stands-asked}
use Rattle.line_history.proofs.Needs.{command-asked, reserved-asked, journal-asked, found-asked}
use Rattle.line_history.proofs.laws.needs_are_asked_for.Goals as goal

pub returns-clause-asked : goal.returns-clause-asked
returns-clause-asked g c = stands-asked g.S.Statements.stands g.met.S.Statements.orderly

pub returns-clause-command : goal.returns-clause-command
returns-clause-command g c = command-asked g.S.Statements.stands

pub returns-clause-reserved : goal.returns-clause-reserved
returns-clause-reserved g c = reserved-asked g.S.Statements.stands

pub returns-clause-journal : goal.returns-clause-journal
returns-clause-journal g c = journal-asked g.S.Statements.stands

pub returns-clause-found : goal.returns-clause-found
returns-clause-found g c = found-asked g.S.Statements.stands
