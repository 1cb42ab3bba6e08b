use Rattle.session_states.proofs.Forgoing.{forgoes-on}
use Rattle.session_states.proofs.laws.refusing.memory_is_wanting.Goals as goal

pub returns : goal.returns
returns g c = forgoes-on g.S.Statements.stands g.met.S.Statements.orderly
