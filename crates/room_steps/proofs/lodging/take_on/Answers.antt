use Rattle.std.proofs.Common.{refl, sym, ap, ◌∙◌, Ok}
use Rattle.gathering_steps.specs.session_states.declared.stage.Life.TheVariants.{Alive}
use Rattle.gathering_steps.specs.session_states.declared.stage.Gather.TheVariants.{Lodging as LodgingOf}
use Rattle.gathering_steps.specs.session_states.declared.stage.Stage.{Stage}
use Rattle.gathering_steps.specs.session_states.declared.stage.Stage.TheVariants.{Gathering}
use Rattle.gathering_steps.specs.stage_steps.Turns.{at_stage, shared}
use Rattle.gathering_steps.proofs.of_stage_steps.Goes.{goes, goes-behind-none, comes-as}
use Rattle.gathering_steps.proofs.of_stage_steps.Nearer.{near-in}
use Rattle.gathering_steps.proofs.of_stage_steps.Resting.{as-before}
use Rattle.gathering_steps.proofs.of_stage_steps.Seated.{rests-at}
use Rattle.gathering_steps.proofs.Nearer.{nearer-next}
use Rattle.room_steps.proofs.Lodged.{lodged-on, more-refl}
use Rattle.room_steps.proofs.lodging.take_on.Goals as goal

pub returns-in_default-clause-comes : goal.returns-in_default-clause-comes
returns-in_default-clause-comes g c =
    c.let_go.ensures.comes c.args.given.room c.args.given.key

pub returns-in-Ok-true-clause-comes : goal.returns-in-Ok-true-clause-comes
returns-in-Ok-true-clause-comes g c =
    comes-as g.S.Statements.stands c.args.s.number _ _ _ _ _ _ _ (c.quiet.ensures.phase ∙ c.at.ensures ∙ ap (λ (x : Stage). at_stage c.args.terms x) c.on.ensures) c.quiet.ensures.happened
    (goes c.args.s.number _ Alive _ Alive _ _ _ _ _ (λ e f. rests-at _ _ c.args.s.number _ (e ∙ f.seat) f.wants f.needs f.statement) (λ u other. refl) (λ left total. nearer-next c.args.s.number _ _ c.args.terms c.args.terms c.args.round.item c.args.round.later c.args.round.place left total (LodgingOf c.args.given.room c.args.given.key) c.in-Some.next refl (sym c.next.ensures ∙ c.in-Some.is))
    (λ h k shown told takes dead left total. lodged-on g.S.Statements.stands g.met.S.Statements.orderly c.args.s.number (shared c.args.common.now.word h c.args.common.now.tree dead) left total c.args.terms.standing c.args.terms.known c.args.terms.known c.args.terms.spoken c.args.terms.waits c.args.round.item c.args.given.room c.args.given.key c.args.round.later c.args.round.place k c.in-Some.next (sym c.next.ensures ∙ c.in-Some.is) takes (record { agrees = λ ordered agreed. agreed; guarded = λ got locked guarded. guarded }) (more-refl c.args.terms.known))
    (c.take_room.ensures.taken (c.in-Ok-true.is ∙ ap Ok c.in-Ok-true.field-0-test)))

pub returns-in-Ok-false-clause-comes : goal.returns-in-Ok-false-clause-comes
returns-in-Ok-false-clause-comes g c =
    goes-behind-none c.args.s.number (at_stage c.args.terms (Gathering c.args.round.item (LodgingOf c.args.given.room c.args.given.key) c.args.round.later c.args.round.place)) _ Alive c.args.common.now.word c.args.common.now.tree (g.L.LineStore.sight c.args.common.now.store) (g.L.LineStore.sight c.take_room.new.self) _ _
    (c.take_room.ensures.refused (λ e. cc))
    (c.let_go-in-Ok-false.ensures.comes c.args.given.room c.args.given.key) (λ left total. near-in _ c.args.s.number _ _ _ _ _ (c.let_go-in-Ok-false.ensures.nearer _ _ c.args.terms c.args.given.room c.args.given.key left total))

pub returns-in-Err-clause-comes : goal.returns-in-Err-clause-comes
returns-in-Err-clause-comes g c =
    goes-behind-none c.args.s.number (at_stage c.args.terms (Gathering c.args.round.item (LodgingOf c.args.given.room c.args.given.key) c.args.round.later c.args.round.place)) _ Alive c.args.common.now.word c.args.common.now.tree (g.L.LineStore.sight c.args.common.now.store) (g.L.LineStore.sight c.take_room.new.self) _ _
    (c.take_room.ensures.refused (λ e. cc))
    (c.forgo.ensures.forgoes c.args.common.now.tree (Gathering c.args.round.item (LodgingOf c.args.given.room c.args.given.key) c.args.round.later c.args.round.place) (as-before c.args.common.now.tree) refl refl) (λ left total. near-in _ c.args.s.number _ _ _ _ _ (c.forgo.ensures.nearer _ _ _ left total refl))

pub returns-in-Ok-true-clause-nearer : goal.returns-in-Ok-true-clause-nearer
returns-in-Ok-true-clause-nearer g c b d t room key left total =
    rw (c.quiet.ensures.phase, c.quiet.ensures.happened, c.at.ensures, c.on.ensures) (nearer-next c.args.s.number b d t c.args.terms c.args.round.item c.args.round.later c.args.round.place left total (LodgingOf room key) c.in-Some.next refl (sym c.next.ensures ∙ c.in-Some.is))

pub returns-in-Err-clause-nearer : goal.returns-in-Err-clause-nearer
returns-in-Err-clause-nearer g c b d t room key left total = c.forgo.ensures.nearer b d _ left total refl
