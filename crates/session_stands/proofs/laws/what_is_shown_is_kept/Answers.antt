use Rattle.session_stands.proofs.Telling.{steps, falls}
use Rattle.session_stands.proofs.laws.what_is_shown_is_kept.Goals as goal

pub returns-clause-steps : goal.returns-clause-steps
returns-clause-steps g c = λ o word then old new locks behind members events es i m n there seated seats none found was is does goes k. steps g.S.Statements.stands g.met.S.Statements.orderly o word then (g.L.LineStore.sight old) (g.L.LineStore.sight new) locks behind members events es i m n there found (g.L.LineStore.stands new) seated seats none was is does goes k

pub returns-clause-falls : goal.returns-clause-falls
returns-clause-falls g c = λ o word then old new locks behind members events es i m n there seated seats found does begins same k. falls g.S.Statements.stands g.met.S.Statements.orderly o word then (g.L.LineStore.sight old) (g.L.LineStore.sight new) locks behind members events es i m n there found (g.L.LineStore.stands new) seated seats does begins same k

pub returns-clause-legal : goal.returns-clause-legal
returns-clause-legal g c = λ o word store locks members events k. k.kept.right.legal
