use Rattle.session_states.proofs.Asking.{asks-on, gets-on}
use Rattle.session_states.proofs.Serving.{serves-on}
use Rattle.session_states.proofs.laws.wanting.locks_are_wanted.Goals as goal

pub returns-clause-notice : goal.returns-clause-notice
returns-clause-notice g c = λ s d locks left total standing known spoken waits stage n wait t node mode wants call a.
    asks-on g.S.Statements.stands g.met.S.Statements.orderly s d locks left total standing known spoken waits stage n a.0 wants call a.1 a.2

pub returns-clause-asleep : goal.returns-clause-asleep
returns-clause-asleep g c = λ s d locks left total standing known spoken waits stage n wait t wants call a.
    asks-on g.S.Statements.stands g.met.S.Statements.orderly s d locks left total standing known spoken waits stage n a.1.0 wants call a.1.1 a.1.2

pub returns-clause-got_it : goal.returns-clause-got_it
returns-clause-got_it g c = λ s d locks left total standing known spoken waits stage n wait wants call apart a.
    gets-on g.S.Statements.stands g.met.S.Statements.orderly s d locks left total standing known spoken waits stage n wants call apart a.0

pub returns-clause-served : goal.returns-clause-served
returns-clause-served g c = serves-on g.S.Statements.stands g.met.S.Statements.orderly
