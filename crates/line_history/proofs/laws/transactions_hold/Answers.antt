use Rattle.line_history.proofs.Transactions.{holds-fresh, holds-said, holds-excused, holds-relaid, writing-beside, stands-told, stands-answered, stands-excused, commit-stands}
use Rattle.line_history.proofs.laws.transactions_hold.Goals as goal

pub returns-clause-fresh : goal.returns-clause-fresh
returns-clause-fresh g c = holds-fresh g.S.Statements.stands g.met.S.Statements.orderly

pub returns-clause-said_more : goal.returns-clause-said_more
returns-clause-said_more g c = holds-said g.S.Statements.stands g.met.S.Statements.orderly

pub returns-clause-refused : goal.returns-clause-refused
returns-clause-refused g c = holds-excused g.S.Statements.stands g.met.S.Statements.orderly

pub returns-clause-beside : goal.returns-clause-beside
returns-clause-beside g c = writing-beside g.S.Statements.stands g.met.S.Statements.orderly

pub returns-clause-told : goal.returns-clause-told
returns-clause-told g c = stands-told g.S.Statements.stands g.met.S.Statements.orderly

pub returns-clause-answered : goal.returns-clause-answered
returns-clause-answered g c = stands-answered g.S.Statements.stands g.met.S.Statements.orderly

pub returns-clause-excused : goal.returns-clause-excused
returns-clause-excused g c = stands-excused g.S.Statements.stands g.met.S.Statements.orderly

pub returns-clause-commits : goal.returns-clause-commits
returns-clause-commits g c = commit-stands g.S.Statements.stands g.met.S.Statements.orderly

pub returns-clause-relaid : goal.returns-clause-relaid
returns-clause-relaid g c = holds-relaid g.S.Statements.stands g.met.S.Statements.orderly
