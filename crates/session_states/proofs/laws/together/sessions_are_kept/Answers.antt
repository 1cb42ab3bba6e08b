use Rattle.session_states.proofs.InTurn.{steps-on}
use Rattle.session_states.proofs.Opened.{opened}
use Rattle.session_states.proofs.Standing.{finds, kept, fell}
use Rattle.session_states.proofs.Flying.{ready-alone}
use Rattle.session_states.proofs.Journal.{holders-rest, others-keep, journal-free}
use Rattle.session_states.proofs.laws.together.sessions_are_kept.Goals as goal

pub returns-clause-finds : goal.returns-clause-finds
returns-clause-finds g c = finds g.S.Statements.stands g.met.S.Statements.orderly

pub returns-clause-kept : goal.returns-clause-kept
returns-clause-kept g c = kept g.S.Statements.stands g.met.S.Statements.orderly

pub returns-clause-in_turn : goal.returns-clause-in_turn
returns-clause-in_turn g c = steps-on g.S.Statements.stands g.met.S.Statements.orderly

pub returns-clause-fell : goal.returns-clause-fell
returns-clause-fell g c = fell g.S.Statements.stands g.met.S.Statements.orderly

pub returns-clause-opened : goal.returns-clause-opened
returns-clause-opened g c = opened g.S.Statements.stands g.met.S.Statements.orderly

pub returns-clause-alone : goal.returns-clause-alone
returns-clause-alone g c = ready-alone g.S.Statements.stands g.met.S.Statements.orderly

pub returns-clause-rests : goal.returns-clause-rests
returns-clause-rests g c = holders-rest g.S.Statements.stands g.met.S.Statements.orderly

pub returns-clause-exclusive : goal.returns-clause-exclusive
returns-clause-exclusive g c = others-keep g.S.Statements.stands g.met.S.Statements.orderly

pub returns-clause-free : goal.returns-clause-free
returns-clause-free g c = journal-free g.S.Statements.stands g.met.S.Statements.orderly
