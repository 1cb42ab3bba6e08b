use Rattle.session_limits.specs.session_states.declared.stage.Life.TheVariants.{Alive}
use Rattle.std.proofs.Common.{refl, subst, ◌∙◌, arith}
use Rattle.rdo_ast.specs.Views.{uttered_of}
use Rattle.line_view.specs.Held.{knows}
use Rattle.session_jobs.specs.declared.jobs.Found.{Found}
use Rattle.session_jobs.specs.Jobs.{IsFound}
use Rattle.session_limits.specs.session_states.declared.stage.ReaderWork.TheVariants.{Due, Out}
use Rattle.session_limits.specs.session_states.declared.stage.ReaderStage.TheVariants.{Working, Gathering}
use Rattle.session_limits.proofs.of_session_states.Reading.{goes-to-read}
use Rattle.session_measure.proofs.Nearer.{nearer-in-round}
use Rattle.stage_steps.specs.Turns.{shared}
use Rattle.stage_steps.proofs.Goes.{goes-still, comes-as}
use Rattle.stage_steps.proofs.Jobs.{never-bad-reading}
use Rattle.stage_steps.proofs.Nearer.{near-in}
use Rattle.stage_steps.proofs.Seated.{reads-on}
use Rattle.stage_steps.proofs.reading.take_found_reading.Goals as goal

pub returns-in-Done-clause-comes : goal.returns-in-Done-clause-comes
returns-in-Done-clause-comes g c word locks found =
    goes-still c.args.s.number _ Alive _ Alive _ _ _ refl (λ f. rw c.say_reading.ensures.phase (reads-on _ _ locks c.args.s.number _ _ refl refl tt f)) (λ u other. refl) (λ left total. near-in _ c.args.s.number _ _ _ _ _ (c.say_reading.ensures.nearer c.args.s.number _ _ _ left total refl))
    (λ h shown dead. c.say_reading.ensures.says c.args.s.number (shared word h locks dead) (subst (λ (f : Found). IsFound g.S.Statements.stands word c.args.terms.standing (uttered_of c.args.item) (knows c.args.terms.known) f) c.in-Done.is found))

pub returns-in-Missing-clause-comes : goal.returns-in-Missing-clause-comes
returns-in-Missing-clause-comes g c word locks found =
    comes-as g.S.Statements.stands c.args.s.number _ _ _ _ _ _ _ (c.quiet.ensures.phase ∙ c.read_in_turn.ensures) c.quiet.ensures.happened
    (goes-still c.args.s.number _ Alive _ Alive _ _ _ refl (λ f. reads-on _ _ locks c.args.s.number _ _ refl refl tt f) (λ u other. refl) (nearer-in-round c.args.s.number _ _ _ _ refl refl refl refl (omega arith))
    (λ h shown dead left total. goes-to-read g.S.Statements.stands g.met.S.Statements.orderly c.args.s.number (shared word h locks dead) left total c.args.terms.standing c.args.terms.known c.args.terms.spoken (Working c.args.item Out) (Gathering c.args.item c.in-Missing.next c.in-Missing.later 0) refl refl (λ stays. stays)))

pub returns-in-Bad-clause-comes : goal.returns-in-Bad-clause-comes
returns-in-Bad-clause-comes g c word locks found =
    rw c.at.ensures (goes-still c.args.s.number _ Alive _ Alive _ _ _ refl (λ f. reads-on _ _ locks c.args.s.number _ _ refl refl tt f) (λ u other. refl)
    (λ left total h shown dead. never-bad-reading g.S.Statements.stands c.args.s.number (shared word h locks dead) left total c.args.terms.standing c.args.terms.known c.args.terms.spoken c.args.item c.in-Bad.key
    (subst (λ (f : Found). IsFound g.S.Statements.stands word c.args.terms.standing (uttered_of c.args.item) (knows c.args.terms.known) f) c.in-Bad.is found))
    (λ h shown dead left total. goes-to-read g.S.Statements.stands g.met.S.Statements.orderly c.args.s.number (shared word h locks dead) left total c.args.terms.standing c.args.terms.known c.args.terms.spoken (Working c.args.item Out) (Working c.args.item Due) refl refl (λ stays. stays)))

pub returns-in-Unworked-clause-comes : goal.returns-in-Unworked-clause-comes
returns-in-Unworked-clause-comes g c word locks found =
    rw c.at-in-Unworked.ensures (goes-still c.args.s.number _ Alive _ Alive _ _ _ refl (λ f. reads-on _ _ locks c.args.s.number _ _ refl refl tt f) (λ u other. refl) (λ left total. tt)
    (λ h shown dead left total. goes-to-read g.S.Statements.stands g.met.S.Statements.orderly c.args.s.number (shared word h locks dead) left total c.args.terms.standing c.args.terms.known c.args.terms.spoken (Working c.args.item Out) (Working c.args.item Due) refl refl (λ stays. stays)))

pub returns-in-NoMemory-clause-comes : goal.returns-in-NoMemory-clause-comes
returns-in-NoMemory-clause-comes g c word locks found = c.forgo_reading.ensures.forgoes word locks (Working c.args.item Out) refl
