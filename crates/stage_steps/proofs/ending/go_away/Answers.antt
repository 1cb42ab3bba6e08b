use Rattle.session_limits.specs.session_states.declared.stage.Life.TheVariants.{Alive}
use Rattle.std.proofs.Common.{◌∙◌, ap, refl, Ok, arith}
use Rattle.line_store.specs.Seats.{done_at}
use Rattle.session_limits.specs.session_states.declared.stage.End.TheVariants.{Leaving}
use Rattle.session_limits.specs.session_states.declared.stage.Stage.TheVariants.{Ending}
use Rattle.session_limits.proofs.of_session_states.Ending.{left-on}
use Rattle.session_measure.proofs.Nearer.{nearer-by-rank}
use Rattle.stage_steps.specs.Turns.{at_stage, shared}
use Rattle.stage_steps.proofs.Goes.{goes, comes-as}
use Rattle.stage_steps.proofs.Resting.{as-before, released}
use Rattle.stage_steps.proofs.Seated.{done-away, sits-over}
use Rattle.stage_steps.proofs.Stored.{when-done, when-more, on-more, on-fault, undoes-plain}
use Rattle.stage_steps.proofs.ending.go_away.Goals as goal

pub returns-in-Ok-Done : goal.returns-in-Ok-Done
returns-in-Ok-Done g c =
    let rests = released c.args.s.number c.args.common.now.tree c.args.common.now.tree c.release_all.new.self (as-before c.args.common.now.tree) c.release_all.ensures.others c.release_all.ensures.idle c.release_all.ensures.trail in
    goes c.args.s.number _ Alive _ Alive _ _ _ _ _ (λ e f. sits-over _ _ c.args.s.number (e ∙ done-away _ (ap done_at f.seat)) c.release_all.ensures.idle) rests.others (nearer-by-rank c.args.s.number _ _ _ _ refl (omega arith))
    (λ h k shown told r dead left total. left-on g.S.Statements.stands g.met.S.Statements.orderly c.args.s.number (shared c.args.common.now.word h c.args.common.now.tree dead) k c.release_all.new.self left total c.args.terms.standing c.args.terms.known c.args.terms.spoken c.args.terms.waits r rests)
    (when-done c.args.s.number _ _ _ _ c.in-Ok-Done.field-0-is c.in-Ok-Done.ensures.does)

pub returns-in-Ok-More : goal.returns-in-Ok-More
returns-in-Ok-More g c =
    comes-as g.S.Statements.stands c.args.s.number _ _ _ _ _ _ _ (c.quiet.ensures.phase ∙ c.at.ensures) c.quiet.ensures.happened
    (on-more g.S.Statements.stands g.met.S.Statements.orderly c.args.s.number c.args.common.now.word c.args.common.now.tree _ _ (at_stage c.args.terms (Ending Leaving)) refl refl (c.work_on.ensures.less (c.in-Ok-More.is ∙ ap Ok c.in-Ok-More.field-0-is)) (when-more c.args.s.number _ _ _ _ c.in-Ok-More.field-0-is c.in-Ok-More.ensures.does))

pub returns-in-Err : goal.returns-in-Err
returns-in-Err g c =
    comes-as g.S.Statements.stands c.args.s.number _ _ _ _ _ _ _ (c.failed.ensures.phase ∙ c.at-in-Err.ensures) c.failed.ensures.happened
    (on-fault g.S.Statements.stands g.met.S.Statements.orderly c.args.s.number c.args.common.now.word c.args.common.now.tree _ _ (at_stage c.args.terms (Ending Leaving)) (g.L.LineStore.agrees c.args.common.now.store) (undoes-plain _ c.requires.rolling_back) c.in-Err.fault c.in-Err.ensures.does)
