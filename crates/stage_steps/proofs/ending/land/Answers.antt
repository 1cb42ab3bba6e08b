use Rattle.session_limits.specs.session_states.declared.stage.Life.TheVariants.{Alive}
use Rattle.std.proofs.Common.{◌∙◌, ap, refl, Ok, arith}
use Rattle.line_store.specs.Seats.{done_at}
use Rattle.session_limits.specs.session_states.declared.stage.End.TheVariants.{Committing}
use Rattle.session_limits.specs.session_states.declared.stage.Stage.TheVariants.{Ending}
use Rattle.session_limits.proofs.of_session_states.Ending.{committed-on}
use Rattle.session_measure.proofs.Nearer.{nearer-answered}
use Rattle.stage_steps.specs.Turns.{at_stage, shared}
use Rattle.stage_steps.proofs.Failing.{commits-plain, still-there}
use Rattle.stage_steps.proofs.Goes.{goes, comes-as}
use Rattle.stage_steps.proofs.Resting.{as-before, released}
use Rattle.stage_steps.proofs.Seated.{sits-closing}
use Rattle.stage_steps.proofs.Stored.{when-committed, when-goes-on, on-more, on-fault}
use Rattle.stage_steps.proofs.ending.land.Goals as goal

pub returns-in-Ok-Committed : goal.returns-in-Ok-Committed
returns-in-Ok-Committed g c =
    let rests = released c.args.s.number c.args.common.now.tree c.args.common.now.tree c.release_all.new.self (as-before c.args.common.now.tree) c.release_all.ensures.others c.release_all.ensures.idle c.release_all.ensures.trail in
    goes c.args.s.number _ Alive _ Alive _ _ _ _ _ (λ e f. sits-closing _ _ c.args.s.number (ap done_at e) c.release_all.ensures.idle) rests.others (nearer-answered c.args.s.number _ _ _ _ (omega arith))
    (λ h k shown told r dead left total. committed-on g.S.Statements.stands g.met.S.Statements.orderly c.args.s.number (shared c.args.common.now.word h c.args.common.now.tree dead) k c.release_all.new.self left total c.args.terms.standing c.args.terms.known c.args.terms.spoken c.args.terms.waits c.in-Ok-Committed.moment.number r rests)
    (when-committed c.args.s.number _ _ _ _ c.in-Ok-Committed.moment c.in-Ok-Committed.field-0-is c.in-Ok-Committed.ensures.comes)

pub returns-in-Ok-More : goal.returns-in-Ok-More
returns-in-Ok-More g c =
    comes-as g.S.Statements.stands c.args.s.number _ _ _ _ _ _ _ (c.quiet.ensures.phase ∙ c.at.ensures) c.quiet.ensures.happened
    (on-more g.S.Statements.stands g.met.S.Statements.orderly c.args.s.number c.args.common.now.word c.args.common.now.tree _ _ (at_stage c.args.terms (Ending Committing)) refl refl (c.step.ensures.less (c.in-Ok-More.is ∙ ap Ok c.in-Ok-More.field-0-is)) (when-goes-on c.args.s.number _ _ _ _ c.in-Ok-More.field-0-is c.in-Ok-More.ensures.comes))

pub returns-in-Err : goal.returns-in-Err
returns-in-Err g c =
    comes-as g.S.Statements.stands c.args.s.number _ _ _ _ _ _ _ (c.failed.ensures.phase ∙ c.at-in-Err.ensures) c.failed.ensures.happened
    (on-fault g.S.Statements.stands g.met.S.Statements.orderly c.args.s.number c.args.common.now.word c.args.common.now.tree _ _ (at_stage c.args.terms (Ending Committing)) (g.L.LineStore.agrees c.args.common.now.store) (commits-plain _ c.requires.committing) c.in-Err.fault (still-there c.args.s.number _ _ _ _ (commits-plain _ c.requires.committing) c.in-Err.ensures.comes))
