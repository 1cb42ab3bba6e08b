use Rattle.std.proofs.Common.{refl, false, true, subst, sym, arith}
use Rattle.session_limits.specs.session_states.Locks.{HasJournal}
use Rattle.session_limits.specs.session_states.declared.stage.Life.TheVariants.{Alive}
use Rattle.session_limits.specs.session_states.declared.stage.End.TheVariants.{Journal, Preparing}
use Rattle.session_limits.specs.session_states.declared.stage.Stage.TheVariants.{Ending}
use Rattle.session_measure.proofs.Nearer.{nearer-by-rank, nearer-answered}
use Rattle.stage_steps.specs.Turns.{at_stage, shared}
use Rattle.stage_steps.proofs.Called.{got-step, asleep-step}
use Rattle.stage_steps.proofs.Goes.{goes, goes-still}
use Rattle.stage_steps.proofs.Nearer.{asleep-near, asleep-by-rank}
use Rattle.stage_steps.proofs.Preparing.{journal, prepared-back, back-step, undone-step, sleeps-behind, gets-behind, ready-seat, waiting-seat, never-noticed, never-cyclic}
use Rattle.stage_steps.proofs.Resting.{given-up}
use Rattle.stage_steps.proofs.Seated.{bare-prepared, rests-at}
use Rattle.stage_steps.proofs.journal.want_journal.Goals as goal

pub returns-in-Got-clause-comes : goal.returns-in-Got-clause-comes
returns-in-Got-clause-comes g c =
    rw c.at-in-Got.ensures (goes-still c.args.s.number _ Alive _ Alive _ _ _ refl (λ f. ready-seat c.args.s.number c.args.common.now.tree c.call.new.tree c.in-Ok.called c.in-Ok.ensures.called c.requires.without c.requires.rest _ c.args.terms.standing c.args.terms.known c.args.terms.spoken c.args.terms.waits (bare-prepared _ c.requires.prepared) c.in-Got.is) c.in-Ok.ensures.called.call.others (nearer-by-rank c.args.s.number _ _ _ _ refl (omega arith))
    (λ h shown dead. got-step g.S.Statements.stands g.met.S.Statements.orderly c.args.s.number c.args.common.now.word h c.args.common.now.tree c.call.new.tree dead c.args.terms.standing c.args.terms.known (Ending Journal) journal true c.in-Ok.called c.in-Ok.ensures.called refl c.args.terms.spoken c.args.terms.waits c.in-Got.is))

pub returns-in-Got-clause-behind : goal.returns-in-Got-clause-behind
returns-in-Got-clause-behind g c before closed writes first =
    rw c.at-in-Got.ensures (goes c.args.s.number _ Alive _ Alive _ _ _ _ _ (λ e f. ready-seat c.args.s.number c.args.common.now.tree c.call.new.tree c.in-Ok.called c.in-Ok.ensures.called c.requires.without c.requires.rest _ c.args.terms.standing c.args.terms.known c.args.terms.spoken c.args.terms.waits e c.in-Got.is) c.in-Ok.ensures.called.call.others (nearer-by-rank c.args.s.number _ _ _ _ refl (omega arith))
    (λ h k shown told moves dead. gets-behind g.S.Statements.stands g.met.S.Statements.orderly c.args.s.number c.args.common.now.word h k c.args.common.now.tree c.call.new.tree dead c.args.terms.standing c.args.terms.known c.args.terms.spoken c.args.terms.waits c.in-Ok.called c.in-Ok.ensures.called c.requires.without c.requires.rest closed moves c.in-Got.is) first)

pub returns-in-Asleep-clause-comes : goal.returns-in-Asleep-clause-comes
returns-in-Asleep-clause-comes g c =
    rw c.at-in-Asleep.ensures (goes-still c.args.s.number _ Alive _ Alive _ _ _ refl (λ f. waiting-seat c.args.s.number c.args.common.now.tree c.call.new.tree c.in-Ok.called c.in-Ok.ensures.called c.requires.without c.requires.rest _ c.args.terms.standing c.args.terms.known c.args.terms.spoken c.args.terms.waits (bare-prepared _ c.requires.prepared) c.in-Asleep.other c.in-Asleep.is) c.in-Ok.ensures.called.call.others (λ left total. asleep-near c.args.s.number journal true c.args.common.now.tree c.call.new.tree c.in-Ok.called c.in-Ok.ensures.called _ (at_stage c.args.terms (Ending Journal)) refl refl left total c.in-Asleep.other c.in-Asleep.is (λ waits. refl))
    (λ h shown dead. asleep-step g.S.Statements.stands g.met.S.Statements.orderly c.args.s.number c.args.common.now.word h c.args.common.now.tree c.call.new.tree dead c.args.terms.standing c.args.terms.known (Ending Journal) journal true c.in-Ok.called c.in-Ok.ensures.called refl c.args.terms.spoken c.args.terms.waits c.in-Asleep.other c.in-Asleep.is))

pub returns-in-Asleep-clause-behind : goal.returns-in-Asleep-clause-behind
returns-in-Asleep-clause-behind g c before closed writes first =
    rw c.at-in-Asleep.ensures (goes c.args.s.number _ Alive _ Alive _ _ _ _ _ (λ e f. waiting-seat c.args.s.number c.args.common.now.tree c.call.new.tree c.in-Ok.called c.in-Ok.ensures.called c.requires.without c.requires.rest _ c.args.terms.standing c.args.terms.known c.args.terms.spoken c.args.terms.waits e c.in-Asleep.other c.in-Asleep.is) c.in-Ok.ensures.called.call.others (asleep-by-rank c.args.s.number _ _ (at_stage c.args.terms (Ending Preparing)) (at_stage c.args.terms (Ending Journal)) refl (omega arith) refl)
    (λ h k shown told moves dead. sleeps-behind g.S.Statements.stands g.met.S.Statements.orderly c.args.s.number c.args.common.now.word h k c.args.common.now.tree c.call.new.tree dead c.args.terms.standing c.args.terms.known c.args.terms.spoken c.args.terms.waits c.in-Ok.called c.in-Ok.ensures.called c.requires.without c.requires.rest closed moves c.in-Asleep.other c.in-Asleep.is) first)

pub returns-in_default-clause-comes : goal.returns-in_default-clause-comes
returns-in_default-clause-comes g c =
    let rests = given-up c.args.s.number c.args.common.now.tree c.call.new.tree c.give_up.new.self c.in_default.ensures.err c.give_up.ensures.others c.give_up.ensures.ended c.give_up.ensures.needs c.give_up.ensures.trail in
    rw (c.refused.ensures, c.at.ensures) (goes c.args.s.number _ Alive _ Alive _ _ _ _ _ (λ e f. rests-at _ _ c.args.s.number _ e rests.ended (subst (HasJournal false) (sym rests.needs) c.requires.without) tt) rests.others (nearer-answered c.args.s.number _ _ _ _ (omega arith))
    (λ h k shown told moves dead left total. back-step g.S.Statements.stands g.met.S.Statements.orderly c.args.s.number (shared c.args.common.now.word h c.args.common.now.tree dead) k c.give_up.new.self left total c.args.terms.standing c.args.terms.known c.args.terms.spoken c.args.terms.waits moves rests) c.give_back.ensures.does)

pub returns-in_default-clause-behind : goal.returns-in_default-clause-behind
returns-in_default-clause-behind g c before closed writes first =
    let rests = given-up c.args.s.number c.args.common.now.tree c.call.new.tree c.give_up.new.self c.in_default.ensures.err c.give_up.ensures.others c.give_up.ensures.ended c.give_up.ensures.needs c.give_up.ensures.trail in
    rw (c.refused.ensures, c.at.ensures) (goes c.args.s.number _ Alive _ Alive _ _ _ _ _ (λ e f. rests-at _ _ c.args.s.number _ e rests.ended (subst (HasJournal false) (sym rests.needs) c.requires.without) tt) rests.others (nearer-answered c.args.s.number _ _ _ _ (omega arith))
    (λ h k shown told moves dead left total. undone-step g.S.Statements.stands g.met.S.Statements.orderly c.args.s.number (shared c.args.common.now.word h c.args.common.now.tree dead) k c.give_up.new.self left total c.args.terms.standing c.args.terms.known c.args.terms.spoken c.args.terms.waits moves rests) (prepared-back c.args.s.number (g.L.LineStore.sight before) _ _ writes first c.give_back.ensures.does))

pub unreachable-requires : goal.unreachable-requires
unreachable-requires g c = never-noticed c.args.s.number c.args.common.now.tree c.call.new.tree c.in-Ok.called c.in-Ok.ensures.called c.requires.without c.requires.rest _ _ _ c.in-NoticeTo.is

pub unreachable-requires-in-Deadlock : goal.unreachable-requires-in-Deadlock
unreachable-requires-in-Deadlock g c = never-cyclic c.args.s.number c.args.common.now.tree c.call.new.tree c.in-Ok.called c.in-Ok.ensures.called c.requires.without c.requires.rest _ c.in-Deadlock.is
