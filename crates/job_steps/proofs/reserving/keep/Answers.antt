use Rattle.std.proofs.Common.{rules, ◌≡◌, refl, ◌∙◌, ap, Err, arith}
use Rattle.gathering_steps.specs.session_states.declared.stage.Life.TheVariants.{Alive}
use Rattle.gathering_steps.specs.session_states.declared.stage.Work.TheVariants.{Out}
use Rattle.gathering_steps.specs.session_states.declared.stage.Stage.TheVariants.{Working, Reserving}
use Rattle.gathering_steps.proofs.of_session_states.Working.{returns-done}
use Rattle.gathering_steps.proofs.of_session_states.Resting.{rests-by}
use Rattle.gathering_steps.proofs.of_session_measure.Nearer.{nearer-by-rank, nearer-in-round}
use Rattle.gathering_steps.specs.stage_steps.Scenes.{scene}
use Rattle.gathering_steps.specs.stage_steps.Turns.{at_stage, shared}
use Rattle.gathering_steps.proofs.of_stage_steps.Goes.{goes-still, comes-as}
use Rattle.gathering_steps.proofs.of_stage_steps.Resting.{as-before}
use Rattle.gathering_steps.proofs.of_stage_steps.Seated.{rests-at}
use Rattle.job_steps.proofs.Kept.{reserved-in, reserves-kept, lacking-found}
use Rattle.job_steps.proofs.reserving.keep.Goals as goal

pub returns-in-Ok-Some-clause-comes : goal.returns-in-Ok-Some-clause-comes
returns-in-Ok-Some-clause-comes g c =
    let here = scene c.args.common.now.word (g.L.LineStore.sight c.args.common.now.store) c.args.common.now.tree in
    let same : c.quiet.result.phase ≡ at_stage c.args.terms (Reserving c.args.item c.args.worked c.in-Ok-Some.locks 0) = search rules in
    let reserved = reserved-in g.S.Statements.stands g.met.S.Statements.orderly c.args.terms c.args.item c.in-Ok-Some.field-0 c.in-Ok-Some.locks c.in-Ok-Some.field-0-is c.in-Ok-Some.ensures.reserved in
    comes-as g.S.Statements.stands c.args.s.number here here (at_stage c.args.terms (Working c.args.item Out)) (at_stage c.args.terms (Reserving c.args.item c.args.worked c.in-Ok-Some.locks 0)) _ _ _ same c.quiet.ensures.happened
    (goes-still c.args.s.number _ Alive _ Alive _ _ _ refl (λ f. rests-at _ _ c.args.s.number _ f.seat f.wants f.needs (f.statement, reserved.areas)) (λ u other. refl) (nearer-by-rank c.args.s.number _ _ _ _ refl (omega arith))
    (λ h shown dead left total. reserves-kept g.S.Statements.stands g.met.S.Statements.orderly c.args.s.number (shared c.args.common.now.word h c.args.common.now.tree dead) c.args.terms c.args.item c.args.worked c.in-Ok-Some.locks reserved c.requires.found left total))

pub returns-in-Ok-None-clause-comes : goal.returns-in-Ok-None-clause-comes
returns-in-Ok-None-clause-comes g c =
    comes-as g.S.Statements.stands c.args.s.number _ _ _ _ _ _ _ (c.quiet-in-Ok-None.ensures.phase ∙ c.at-in-Ok-None.ensures) c.quiet-in-Ok-None.ensures.happened
    (goes-still c.args.s.number _ Alive _ Alive _ _ _ refl (λ f. rests-at _ _ c.args.s.number _ f.seat f.wants f.needs f.statement) (λ u other. refl) (nearer-by-rank c.args.s.number _ _ _ _ refl (omega arith))
    (λ h shown dead left total. returns-done g.S.Statements.stands g.met.S.Statements.orderly c.args.s.number (shared c.args.common.now.word h c.args.common.now.tree dead) left total c.args.terms.standing c.args.terms.known c.args.terms.spoken c.args.terms.waits c.args.item c.args.worked c.requires.found))

pub returns-in-Err-Lacking-clause-comes : goal.returns-in-Err-Lacking-clause-comes
returns-in-Err-Lacking-clause-comes g c =
    comes-as g.S.Statements.stands c.args.s.number _ _ _ _ _ _ _ c.quiet-in-Err-Lacking.ensures.phase c.quiet-in-Err-Lacking.ensures.happened
    (goes-still c.args.s.number _ Alive _ Alive _ _ _ refl (λ f. c.gather.ensures.seated _ _ c.args.s.number f) (λ u other. refl) (λ left total. c.gather.ensures.nearer c.args.s.number _ left total)
    (λ h shown dead left total. c.gather.ensures.comes c.args.s.number (shared c.args.common.now.word h c.args.common.now.tree dead) (lacking-found g.S.Statements.stands g.met.S.Statements.orderly c.args.common.now.word c.args.terms c.args.item c.in-Err-Lacking.need c.new-later.result c.new-later.ensures (c.locks_of.ensures.lacking c.in-Err-Lacking.need (c.in-Err-Lacking.is ∙ ap Err c.in-Err-Lacking.field-0-is))) left total))

pub returns-in-Err-Unknown-clause-comes : goal.returns-in-Err-Unknown-clause-comes
returns-in-Err-Unknown-clause-comes g c =
    comes-as g.S.Statements.stands c.args.s.number _ _ _ _ _ _ _ (c.quiet-in-Err-Unknown.ensures.phase ∙ c.at-in-Err-Unknown.ensures) c.quiet-in-Err-Unknown.ensures.happened
    (goes-still c.args.s.number _ Alive _ Alive _ _ _ refl (λ f. rests-at _ _ c.args.s.number _ f.seat f.wants f.needs f.statement) (λ u other. refl) (nearer-in-round c.args.s.number _ _ _ _ refl refl refl refl (omega arith))
    (λ h shown dead left total. rests-by g.S.Statements.stands g.met.S.Statements.orderly c.args.s.number (shared c.args.common.now.word h c.args.common.now.tree dead) left total _ _ refl
    (λ o p g1 f. record { desk = f.fits.phase.desk; spoken = f.fits.phase.spoken; waits = f.fits.phase.waits; stage = (f.fits.phase.stage.0, tt); wants = f.fits.phase.wants; journal = f.fits.phase.journal; ends = tt; claims = tt })))

pub returns-clause-comes : goal.returns-clause-comes
returns-clause-comes g c =
    c.forgo.ensures.forgoes c.args.common.now.tree (Working c.args.item Out) (as-before c.args.common.now.tree) refl refl
