use Rattle.std.proofs.Common.{refl, ◌∙◌, arith}
use Rattle.line_store.specs.Shelves.{seen_by}
use Rattle.gathering_steps.specs.session_states.declared.stage.Life.TheVariants.{Alive}
use Rattle.gathering_steps.specs.session_states.declared.stage.Gather.TheVariants.{Lodging as LodgingOf}
use Rattle.gathering_steps.specs.session_states.declared.stage.Work.TheVariants.{Lodging}
use Rattle.gathering_steps.specs.session_states.declared.stage.Stage.TheVariants.{Working, Gathering}
use Rattle.gathering_steps.proofs.of_session_measure.Nearer.{nearer-in-round}
use Rattle.gathering_steps.specs.stage_steps.Turns.{at_stage, shared}
use Rattle.gathering_steps.proofs.of_stage_steps.Goes.{goes-still, comes-as}
use Rattle.gathering_steps.proofs.of_stage_steps.Nearer.{near-in}
use Rattle.gathering_steps.proofs.of_stage_steps.Resting.{as-before}
use Rattle.gathering_steps.proofs.of_stage_steps.Seated.{rests-at}
use Rattle.room_steps.proofs.Before.{comes-behind}
use Rattle.room_steps.proofs.Lodged.{lodged-off, lodging-still}
use Rattle.room_steps.proofs.lodging.let_go.Goals as goal

pub returns-in-Ok-clause-comes : goal.returns-in-Ok-clause-comes
returns-in-Ok-clause-comes g c =
    λ room key. comes-as g.S.Statements.stands c.args.s.number _ _ _ _ _ _ _ (c.quiet.ensures.phase ∙ c.at.ensures) c.quiet.ensures.happened
    (goes-still c.args.s.number _ Alive _ Alive _ _ _ refl (λ f. rests-at _ _ c.args.s.number _ f.seat f.wants f.needs f.statement) (λ u other. refl) (nearer-in-round c.args.s.number _ _ _ _ refl refl refl refl (omega arith))
    (λ h shown dead left total. lodged-off g.S.Statements.stands g.met.S.Statements.orderly c.args.s.number (shared c.args.common.now.word h c.args.common.now.tree dead) left total c.args.terms.standing c.args.terms.known c.learn.new.known c.args.terms.spoken c.args.terms.waits c.args.round.item room key c.args.round.later c.args.round.place (record { agrees = λ ordered. c.learn.ensures.agrees (seen_by c.args.s.number h); guarded = λ got locked. c.learn.ensures.guarded got })))

pub returns-clause-comes : goal.returns-clause-comes
returns-clause-comes g c =
    λ room key. comes-behind g.S.Statements.stands g.met.S.Statements.orderly c.args.s.number (at_stage c.args.terms (Gathering c.args.round.item (LodgingOf room key) c.args.round.later c.args.round.place)) (at_stage (record { standing = c.args.terms.standing; known = c.learn.new.known; spoken = c.args.terms.spoken; waits = c.args.terms.waits }) (Working c.args.round.item (Lodging room key))) _ c.args.common.now.word (g.L.LineStore.sight c.args.common.now.store) c.args.common.now.tree _ _
    (λ h dead left total. lodging-still g.S.Statements.stands g.met.S.Statements.orderly c.args.s.number (shared c.args.common.now.word h c.args.common.now.tree dead) left total c.args.terms.standing c.args.terms.known c.learn.new.known c.args.terms.spoken c.args.terms.waits c.args.round.item room key c.args.round.later c.args.round.place (record { agrees = λ ordered. c.learn.ensures.agrees (seen_by c.args.s.number h); guarded = λ got locked. c.learn.ensures.guarded got })) (λ f. rests-at _ _ c.args.s.number _ f.seat f.wants f.needs f.statement) (λ left total. near-in _ c.args.s.number _ _ _ _ _ (c.forgo.ensures.nearer _ _ _ left total refl))
    (c.forgo.ensures.forgoes c.args.common.now.tree (Working c.args.round.item (Lodging room key)) (as-before c.args.common.now.tree) refl refl)

pub returns-in-Ok-clause-nearer : goal.returns-in-Ok-clause-nearer
returns-in-Ok-clause-nearer g c b d t room key left total =
    rw (c.quiet.ensures.phase, c.quiet.ensures.happened, c.at.ensures) (nearer-in-round c.args.s.number b d _ _ refl refl refl refl (omega arith) left total)

pub returns-clause-nearer : goal.returns-clause-nearer
returns-clause-nearer g c b d t room key left total = c.forgo.ensures.nearer b d _ left total refl
