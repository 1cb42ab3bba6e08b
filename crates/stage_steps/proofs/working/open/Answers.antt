use Rattle.session_limits.specs.session_states.declared.stage.Life.TheVariants.{Alive}
use Rattle.std.proofs.Common.{◌∙◌, ap, refl, Ok, arith}
use Rattle.line_store.specs.Seats.{Seat, done_at}
use Rattle.line_store.specs.Sights.{bare, seat_or}
use Rattle.session_limits.specs.session_states.declared.stage.Work.TheVariants.{Opening}
use Rattle.session_limits.specs.session_states.declared.stage.Stage.TheVariants.{Working}
use Rattle.session_limits.proofs.of_session_states.Parting.{opens-on}
use Rattle.session_measure.proofs.Nearer.{nearer-by-rank}
use Rattle.stage_steps.specs.Turns.{at_stage, shared}
use Rattle.line_store.specs.Seats.{is_changing}
use Rattle.stage_steps.proofs.Goes.{goes, comes-as}
use Rattle.stage_steps.proofs.Seated.{rests-at}
use Rattle.stage_steps.proofs.Stored.{when-done, when-more, on-more, on-fault}
use Rattle.stage_steps.proofs.working.open.Goals as goal

pub returns-in-Ok-Done : goal.returns-in-Ok-Done
returns-in-Ok-Done g c word locks =
    comes-as g.S.Statements.stands c.args.s.number _ _ _ _ _ _ _ (c.quiet.ensures.phase ∙ c.at.ensures) c.quiet.ensures.happened
    (goes c.args.s.number _ Alive _ Alive _ _ _ _ _ (λ e f. rests-at _ locks c.args.s.number _ (e ∙ ap (λ (seat : Seat). bare (seat_or seat (done_at seat))) c.requires.opening) f.wants f.needs f.statement) (λ u other. refl) (nearer-by-rank c.args.s.number _ _ _ _ refl (omega arith))
    (λ h k shown told r dead left total. opens-on g.S.Statements.stands g.met.S.Statements.orderly c.args.s.number (shared word h locks dead) k left total c.args.terms.standing c.args.terms.known c.args.terms.spoken c.args.terms.waits c.args.item r)
    (when-done c.args.s.number ((g.L.LineStore.sight c.args.store.now).stand c.args.s.number) _ _ _ c.in-Ok-Done.field-0-is c.in-Ok-Done.ensures.does))

pub returns-in-Ok-More : goal.returns-in-Ok-More
returns-in-Ok-More g c word locks =
    comes-as g.S.Statements.stands c.args.s.number _ _ _ _ _ _ _ (c.quiet-in-Ok-More.ensures.phase ∙ c.at-in-Ok-More.ensures) c.quiet-in-Ok-More.ensures.happened
    (on-more g.S.Statements.stands g.met.S.Statements.orderly c.args.s.number word locks _ _ (at_stage c.args.terms (Working c.args.item Opening)) refl refl (c.work_on.ensures.less (c.in-Ok-More.is ∙ ap Ok c.in-Ok-More.field-0-is)) (when-more c.args.s.number _ _ _ _ c.in-Ok-More.field-0-is c.in-Ok-More.ensures.does))

pub returns-in-Err : goal.returns-in-Err
returns-in-Err g c word locks =
    comes-as g.S.Statements.stands c.args.s.number _ _ _ _ _ _ _ (c.failed.ensures.phase ∙ c.at-in-Err.ensures) c.failed.ensures.happened
    (on-fault g.S.Statements.stands g.met.S.Statements.orderly c.args.s.number word locks _ _ (at_stage c.args.terms (Working c.args.item Opening)) (g.L.LineStore.agrees c.args.store.now) (ap is_changing c.requires.opening) c.in-Err.fault c.in-Err.ensures.does)
