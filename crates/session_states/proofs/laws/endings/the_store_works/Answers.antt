use Rattle.session_states.proofs.Parting.{begins-on, opens-on, goes-on, commits-on, closes-on}
use Rattle.session_states.proofs.laws.endings.the_store_works.Goals as goal

pub returns-clause-begins : goal.returns-clause-begins
returns-clause-begins g c = begins-on g.S.Statements.stands g.met.S.Statements.orderly

pub returns-clause-opens : goal.returns-clause-opens
returns-clause-opens g c = opens-on g.S.Statements.stands g.met.S.Statements.orderly

pub returns-clause-goes_on : goal.returns-clause-goes_on
returns-clause-goes_on g c = goes-on g.S.Statements.stands g.met.S.Statements.orderly

pub returns-clause-commits : goal.returns-clause-commits
returns-clause-commits g c = commits-on g.S.Statements.stands g.met.S.Statements.orderly

pub returns-clause-closes : goal.returns-clause-closes
returns-clause-closes g c = closes-on g.S.Statements.stands g.met.S.Statements.orderly
