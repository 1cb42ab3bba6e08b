use Rattle.session_limits.specs.session_states.declared.stage.Life.TheVariants.{Alive}
use Rattle.session_limits.specs.session_states.declared.stage.Phase.TheVariants.{Outside}
use Rattle.session_limits.proofs.of_session_states.Outside.{forgoes-outside}
use Rattle.std.proofs.Common.{refl}
use Rattle.session_measure.proofs.Nearer.{nearer-said}
use Rattle.stage_steps.specs.Turns.{shared}
use Rattle.stage_steps.proofs.Goes.{goes-still}
use Rattle.stage_steps.proofs.Nearer.{near-in}
use Rattle.stage_steps.proofs.outside.start.Goals as goal

pub returns-then-writes-clause-starts : goal.returns-then-writes-clause-starts
returns-then-writes-clause-starts g c locks = c.begin_writing.ensures.begins c.args.word.now locks

pub returns-in-Some-clause-starts : goal.returns-in-Some-clause-starts
returns-in-Some-clause-starts g c locks = c.begin_copying.ensures.begins c.args.word.now locks

pub returns-in-Ok-Some-clause-starts : goal.returns-in-Ok-Some-clause-starts
returns-in-Ok-Some-clause-starts g c locks = c.begin_reading.ensures.begins c.args.word.now locks

pub returns-in-Ok-None-clause-starts : goal.returns-in-Ok-None-clause-starts
returns-in-Ok-None-clause-starts g c locks =
    goes-still c.args.s.number Outside Alive Outside Alive _ _ _ refl (λ f. f) (λ u other. refl) (λ left total. near-in _ c.args.s.number _ _ _ _ _ (c.answer_outside.ensures.nearer c.args.s.number _ _ left total)) (λ h shown dead left total. c.answer_outside.ensures.says c.args.s.number (shared c.args.word.now h locks dead) refl left total)

pub returns-clause-starts : goal.returns-clause-starts
returns-clause-starts g c locks =
    rw c.unbegun.ensures.phase (rw c.unbegun.ensures.happened (goes-still c.args.s.number Outside Alive Outside Alive _ _ _ refl (λ f. f) (λ u other. refl) (nearer-said c.args.s.number _ _ _ _ c.args.item refl) (λ h shown dead left total. forgoes-outside g.S.Statements.stands g.met.S.Statements.orderly c.args.s.number (shared c.args.word.now h locks dead) c.args.item left total)))

pub returns-then-writes-clause-cause : goal.returns-then-writes-clause-cause
returns-then-writes-clause-cause g c = c.begin_writing.ensures.cause c.args.word.now

pub returns-in-Some-clause-cause : goal.returns-in-Some-clause-cause
returns-in-Some-clause-cause g c = c.begin_copying.ensures.cause c.args.word.now

pub returns-in-Ok-Some-clause-cause : goal.returns-in-Ok-Some-clause-cause
returns-in-Ok-Some-clause-cause g c = c.begin_reading.ensures.cause c.args.word.now
