use Rattle.session_states.proofs.ReadingEnds.{reader-commits-on, reader-rolls-on, reader-leaves-on, reader-unstarted-on}
use Rattle.session_states.proofs.laws.reading.readers_end.Goals as goal

pub returns-clause-commits : goal.returns-clause-commits
returns-clause-commits g c = reader-commits-on g.S.Statements.stands g.met.S.Statements.orderly

pub returns-clause-rolls_back : goal.returns-clause-rolls_back
returns-clause-rolls_back g c = reader-rolls-on g.S.Statements.stands g.met.S.Statements.orderly

pub returns-clause-leaves : goal.returns-clause-leaves
returns-clause-leaves g c = reader-leaves-on g.S.Statements.stands g.met.S.Statements.orderly

pub returns-clause-unstarted : goal.returns-clause-unstarted
returns-clause-unstarted g c = reader-unstarted-on g.S.Statements.stands g.met.S.Statements.orderly
