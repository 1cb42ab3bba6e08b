use Rattle.session_states.proofs.Working.{takes-statement, takes-commit, hands-out, returns-done, returns-lacking, never-bad, houses}
use Rattle.session_states.proofs.laws.working.statements_are_worked.Goals as goal

pub returns-clause-takes : goal.returns-clause-takes
returns-clause-takes g c = takes-statement g.S.Statements.stands g.met.S.Statements.orderly

pub returns-clause-takes_commit : goal.returns-clause-takes_commit
returns-clause-takes_commit g c = takes-commit g.S.Statements.stands g.met.S.Statements.orderly

pub returns-clause-hands_out : goal.returns-clause-hands_out
returns-clause-hands_out g c = hands-out g.S.Statements.stands g.met.S.Statements.orderly

pub returns-clause-done : goal.returns-clause-done
returns-clause-done g c = returns-done g.S.Statements.stands g.met.S.Statements.orderly

pub returns-clause-lacking : goal.returns-clause-lacking
returns-clause-lacking g c = returns-lacking g.S.Statements.stands g.met.S.Statements.orderly

pub returns-clause-never_bad : goal.returns-clause-never_bad
returns-clause-never_bad g c = never-bad g.S.Statements.stands g.met.S.Statements.orderly

pub returns-clause-houses : goal.returns-clause-houses
returns-clause-houses g c = houses g.S.Statements.stands g.met.S.Statements.orderly
