use Rattle.session_states.proofs.Copying.{begins-to-copy, copied-on}
use Rattle.session_states.proofs.laws.reading.readers_copy.Goals as goal

pub returns-clause-begins : goal.returns-clause-begins
returns-clause-begins g c = begins-to-copy g.S.Statements.stands g.met.S.Statements.orderly

pub returns-clause-copied : goal.returns-clause-copied
returns-clause-copied g c = copied-on g.S.Statements.stands g.met.S.Statements.orderly
