use Rattle.session_states.proofs.Preparing.{prepares-on, prepares-got, unprepares-on, gives-back}
use Rattle.session_states.proofs.laws.preparing.commits_are_prepared.Goals as goal

pub returns-clause-asleep : goal.returns-clause-asleep
returns-clause-asleep g c = λ s d shelf locks left total standing known spoken waits wait t moves call asked a.
    prepares-on g.S.Statements.stands g.met.S.Statements.orderly s d shelf locks left total standing known spoken waits a.1.0 moves call asked a.1.1 a.1.2

pub returns-clause-got_it : goal.returns-clause-got_it
returns-clause-got_it g c = λ s d shelf locks left total standing known spoken waits wait moves call asked apart a.
    prepares-got g.S.Statements.stands g.met.S.Statements.orderly s d shelf locks left total standing known spoken waits moves call asked apart a.0

pub returns-clause-unprepared : goal.returns-clause-unprepared
returns-clause-unprepared g c = unprepares-on g.S.Statements.stands g.met.S.Statements.orderly

pub returns-clause-given_back : goal.returns-clause-given_back
returns-clause-given_back g c = gives-back g.S.Statements.stands g.met.S.Statements.orderly
