use Rattle.std.proofs.Common.{refl, ◌∙◌, ap, Ok, arith}
use Rattle.gathering_steps.specs.session_states.declared.stage.Life.TheVariants.{Alive}
use Rattle.gathering_steps.specs.session_states.declared.stage.Work.TheVariants.{Lacking}
use Rattle.gathering_steps.specs.session_states.declared.stage.Stage.TheVariants.{Working}
use Rattle.line_view.specs.declared.need.Need.TheVariants.{Room}
use Rattle.gathering_steps.proofs.of_session_limits.AtLimits.{area-full-on}
use Rattle.gathering_steps.proofs.of_session_measure.Nearer.{nearer-answered}
use Rattle.gathering_steps.specs.stage_steps.Turns.{shared}
use Rattle.gathering_steps.proofs.of_stage_steps.Goes.{goes-still}
use Rattle.gathering_steps.proofs.of_stage_steps.Resting.{as-before}
use Rattle.gathering_steps.proofs.of_stage_steps.Seated.{rests-at}
use Rattle.room_steps.proofs.housing.refuse_full.Goals as goal

pub returns-in-Ok-true : goal.returns-in-Ok-true
returns-in-Ok-true g c =
    rw (c.refuse_at_limit.ensures.phase, c.refuse_at_limit.ensures.happened, c.if-not-terms.false) (goes-still c.args.s.number _ Alive _ Alive _ _ _ refl
    (λ f. rests-at _ _ c.args.s.number _ f.seat f.wants f.needs tt) (λ u other. refl) (nearer-answered c.args.s.number _ _ _ _ (omega arith))
    (λ h shown dead left total. area-full-on g.S.Statements.stands g.met.S.Statements.orderly c.args.s.number (shared c.args.common.now.word h c.args.common.now.tree dead) left total c.args.terms.standing c.args.terms.known c.args.terms.waits c.args.item c.args.room c.args.limit (c.requires.full h shown)
    (c.is_reached.ensures (c.in-Ok-true.is ∙ ap Ok c.in-Ok-true.field-0-test) c.args.common.now.word c.args.limit)))

pub returns-in-Err : goal.returns-in-Err
returns-in-Err g c = c.forgo.ensures.forgoes c.args.common.now.tree (Working c.args.item (Lacking (Room c.args.room))) (as-before c.args.common.now.tree) refl refl
