use Rattle.std.proofs.Common.{refl, ap, Ok, ◌∙◌, arith}
use Rattle.session_limits.specs.session_states.declared.stage.Life.TheVariants.{Alive}
use Rattle.session_limits.specs.session_states.declared.stage.Phase.TheVariants.{Closing}
use Rattle.session_limits.proofs.of_session_states.Parting.{closes-on}
use Rattle.session_measure.proofs.Nearer.{nearer-by-rank}
use Rattle.stage_steps.specs.Turns.{shared}
use Rattle.stage_steps.proofs.Goes.{goes, comes-as}
use Rattle.stage_steps.proofs.Seated.{sits-away}
use Rattle.stage_steps.proofs.Stored.{when-done, when-more, on-more, on-fault, undoes-plain}
use Rattle.stage_steps.proofs.outside.put_away.Goals as goal

pub returns-in-Ok-Done : goal.returns-in-Ok-Done
returns-in-Ok-Done g c word locks =
    comes-as g.S.Statements.stands c.args.s.number _ _ _ _ _ _ _ c.quiet.ensures.phase c.quiet.ensures.happened
    (goes c.args.s.number Closing Alive _ Alive _ _ _ _ _ (λ e f. sits-away _ _ locks c.args.s.number e f) (λ u other. refl) (nearer-by-rank c.args.s.number _ _ _ _ refl (omega arith))
    (λ h k shown told r dead left total. closes-on g.S.Statements.stands g.met.S.Statements.orderly c.args.s.number (shared word h locks dead) k left total r)
    (when-done c.args.s.number _ _ _ _ c.in-Ok-Done.field-0-is c.in-Ok-Done.ensures.does))

pub returns-in-Ok-More : goal.returns-in-Ok-More
returns-in-Ok-More g c word locks =
    comes-as g.S.Statements.stands c.args.s.number _ _ _ _ _ _ _ c.quiet-in-Ok-More.ensures.phase c.quiet-in-Ok-More.ensures.happened
    (on-more g.S.Statements.stands g.met.S.Statements.orderly c.args.s.number word locks _ _ Closing refl refl (c.work_on.ensures.less (c.in-Ok-More.is ∙ ap Ok c.in-Ok-More.field-0-is)) (when-more c.args.s.number _ _ _ _ c.in-Ok-More.field-0-is c.in-Ok-More.ensures.does))

pub returns-in-Err : goal.returns-in-Err
returns-in-Err g c word locks =
    comes-as g.S.Statements.stands c.args.s.number _ _ _ _ _ _ _ c.failed.ensures.phase c.failed.ensures.happened (on-fault g.S.Statements.stands g.met.S.Statements.orderly c.args.s.number word locks _ _ Closing (g.L.LineStore.agrees c.args.store.now) (undoes-plain _ c.requires.closing) c.in-Err.fault c.in-Err.ensures.does)
