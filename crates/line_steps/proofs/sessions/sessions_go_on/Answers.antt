use Rattle.line_steps.proofs.Kept.{here, stepped, arrives, in-turn, rests, elapses}
use Rattle.line_steps.proofs.sessions.sessions_go_on.Goals as goal

pub returns-clause-found : goal.returns-clause-found
returns-clause-found g c = here g.S.Statements.stands g.met.S.Statements.orderly

pub returns-clause-kept : goal.returns-clause-kept
returns-clause-kept g c = stepped g.S.Statements.stands g.met.S.Statements.orderly

pub returns-clause-behind : goal.returns-clause-behind
returns-clause-behind g c = arrives g.S.Statements.stands g.met.S.Statements.orderly

pub returns-clause-in_turn : goal.returns-clause-in_turn
returns-clause-in_turn g c = in-turn g.S.Statements.stands g.met.S.Statements.orderly

pub returns-clause-nothing : goal.returns-clause-nothing
returns-clause-nothing g c = rests g.S.Statements.stands g.met.S.Statements.orderly

pub returns-clause-elapses : goal.returns-clause-elapses
returns-clause-elapses g c = elapses g.S.Statements.stands g.met.S.Statements.orderly
