use Rattle.session_limits.specs.session_states.declared.stage.Life.TheVariants.{Alive}
use Rattle.std.proofs.Common.{◌∙◌, refl, ap, Ok, arith}
use Rattle.session_limits.specs.session_states.declared.stage.Laying.TheVariants.{Changing}
use Rattle.session_limits.specs.session_states.declared.stage.Stage.TheVariants.{Saying}
use Rattle.session_limits.proofs.of_session_states.Storing.{breaks-on, says-laid}
use Rattle.session_measure.proofs.Nearer.{nearer-answered}
use Rattle.stage_steps.specs.Turns.{at_stage, shared}
use Rattle.stage_steps.proofs.Failing.{change-breaks}
use Rattle.stage_steps.proofs.Goes.{goes, comes-as, has-failed}
use Rattle.stage_steps.proofs.Seated.{done-laid, rests-at}
use Rattle.stage_steps.proofs.Stored.{when-laid, when-goes-on, on-more}
use Rattle.stage_steps.proofs.saying.change.Goals as goal

pub returns-in-Ok-Done : goal.returns-in-Ok-Done
returns-in-Ok-Done g c word locks =
    comes-as g.S.Statements.stands c.args.s.number _ _ _ _ _ _ _ c.say.ensures.phase c.say.ensures.happened
    (goes c.args.s.number _ Alive _ Alive _ _ _ _ _ (λ e f. rests-at _ locks c.args.s.number _ (e ∙ done-laid _ f.seat) f.wants f.needs tt) (λ u other. refl) (nearer-answered c.args.s.number _ _ _ _ (omega arith))
    (λ h k shown told r dead left total. says-laid g.S.Statements.stands g.met.S.Statements.orderly c.args.s.number (shared word h locks dead) k left total c.args.terms.standing c.args.terms.known c.args.terms.spoken c.args.terms.waits c.args.item c.args.worked r)
    (when-laid c.args.s.number _ _ _ _ c.in-Ok-Done.field-0-is c.in-Ok-Done.ensures.comes))

pub returns-in-Ok-More : goal.returns-in-Ok-More
returns-in-Ok-More g c word locks =
    comes-as g.S.Statements.stands c.args.s.number _ _ _ _ _ _ _ (c.quiet.ensures.phase ∙ c.at.ensures) c.quiet.ensures.happened
    (on-more g.S.Statements.stands g.met.S.Statements.orderly c.args.s.number word locks _ _ (at_stage c.args.terms (Saying c.args.item c.args.worked Changing)) refl refl (c.step.ensures.less (c.in-Ok-More.is ∙ ap Ok c.in-Ok-More.field-0-is)) (when-goes-on c.args.s.number _ _ _ _ c.in-Ok-More.field-0-is c.in-Ok-More.ensures.comes))

pub returns-in-Err : goal.returns-in-Err
returns-in-Err g c word locks =
    comes-as g.S.Statements.stands c.args.s.number _ _ _ _ _ _ _ (c.failed.ensures.phase ∙ c.at-in-Err.ensures) c.failed.ensures.happened
    (goes c.args.s.number _ Alive _ Alive _ _ _ _ _ (λ e f. rests-at _ locks c.args.s.number _ (e ∙ change-breaks _ f.seat) f.wants f.needs f.statement) (λ u other. refl) (λ left total. has-failed c.args.s.number _ _ c.in-Err.fault _ _ (λ h k r. r) c.in-Err.ensures.comes)
    (λ h k shown told r dead left total. breaks-on g.S.Statements.stands g.met.S.Statements.orderly c.args.s.number (shared word h locks dead) k left total c.args.terms.standing c.args.terms.known c.args.terms.spoken c.args.terms.waits c.args.item c.args.worked r.moves)
    c.in-Err.ensures.comes)
