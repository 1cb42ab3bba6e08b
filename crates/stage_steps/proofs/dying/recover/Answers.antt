use Rattle.std.proofs.Common.{refl, ap, Ok, ◌∙◌}
use Rattle.session_limits.specs.session_states.declared.stage.Life.TheVariants.{Dead, Gone}
use Rattle.session_limits.proofs.of_session_states.Dying.{recovers-more}
use Rattle.session_limits.specs.session_states.States.{dead_session}
use Rattle.session_measure.proofs.Falling.{by-steps}
use Rattle.session_measure.proofs.Nearer.{nearer-recovered}
use Rattle.stage_steps.specs.Scenes.{beside, scene}
use Rattle.stage_steps.specs.Turns.{shared}
use Rattle.stage_steps.proofs.Failing.{dead-plain, fault-moves, plain-shown, still-there}
use Rattle.stage_steps.proofs.Goes.{goes, has-failed}
use Rattle.stage_steps.proofs.Resting.{as-before, released}
use Rattle.stage_steps.proofs.Seated.{idle-party}
use Rattle.stage_steps.proofs.Stored.{when-goes-on, when-recovered}
use Rattle.stage_steps.proofs.Falls.{recovers-as, falls-on}
use Rattle.stage_steps.proofs.dying.recover.Goals as goal

pub returns-in-Ok-Recovered : goal.returns-in-Ok-Recovered
returns-in-Ok-Recovered g c x =
    let rests = released c.args.s.number c.args.common.now.tree c.args.common.now.tree c.release_all.new.self (as-before c.args.common.now.tree) c.release_all.ensures.others c.release_all.ensures.idle c.release_all.ensures.trail in
    let none = idle-party c.release_all.new.self c.args.s.number c.release_all.ensures.idle in
    goes c.args.s.number x Dead x Gone _ _ _ _ _ (λ e f. record { seat = e; wants = none.0; needs = none.1 }) rests.others (nearer-recovered c.args.s.number (beside (scene c.args.common.now.word (g.L.LineStore.sight c.args.common.now.store) c.args.common.now.tree)) (beside (scene c.args.common.now.word (g.L.LineStore.sight c.step.new.self) c.release_all.new.self)) x)
    (λ h k shown told r o dead left total. recovers-as g.S.Statements.stands g.met.S.Statements.orderly o c.args.s.number (shared c.args.common.now.word h c.args.common.now.tree dead) k c.release_all.new.self left total x c.in-Ok-Recovered.is_committed c.in-Ok-Recovered.moment r rests)
    (when-recovered c.args.s.number _ _ _ _ c.in-Ok-Recovered.is_committed c.in-Ok-Recovered.moment c.in-Ok-Recovered.field-0-is c.in-Ok-Recovered.ensures.comes)

pub returns-in-Ok-More : goal.returns-in-Ok-More
returns-in-Ok-More g c x =
    goes c.args.s.number x Dead x Dead _ _ _ _ _ (λ e f. falls-on _ _ _ c.args.s.number x e f) (λ u other. refl) (λ left total k. by-steps k c.args.s.number (beside (scene c.args.common.now.word (g.L.LineStore.sight c.args.common.now.store) c.args.common.now.tree)) (beside (scene c.args.common.now.word (g.L.LineStore.sight c.step.new.self) c.args.common.now.tree)) (dead_session left total x) refl (c.step.ensures.less (c.in-Ok-More.is ∙ ap Ok c.in-Ok-More.field-0-is)))
    (λ h k shown told r o dead left total. recovers-more g.S.Statements.stands g.met.S.Statements.orderly o c.args.s.number (shared c.args.common.now.word h c.args.common.now.tree dead) k left total x r.moves) (when-goes-on c.args.s.number _ _ _ _ c.in-Ok-More.field-0-is c.in-Ok-More.ensures.comes)

pub returns-in-Err : goal.returns-in-Err
returns-in-Err g c x =
    let plain = dead-plain _ c.requires.died in
    goes c.args.s.number x Dead x Dead _ _ _ _ _ (λ e f. falls-on _ _ _ c.args.s.number x e f) (λ u other. refl) (λ left total. has-failed c.args.s.number _ _ c.in-Err.fault _ _ (λ h k r. r) c.in-Err.ensures.comes)
    (λ h k shown told r o dead left total. recovers-more g.S.Statements.stands g.met.S.Statements.orderly o c.args.s.number (shared c.args.common.now.word h c.args.common.now.tree dead) k left total x (fault-moves c.args.s.number c.in-Err.fault h k (plain-shown c.args.s.number (g.L.LineStore.sight c.args.common.now.store) (g.L.LineStore.agrees c.args.common.now.store) plain h shown) r))
    (still-there c.args.s.number _ _ _ _ plain c.in-Err.ensures.comes)
