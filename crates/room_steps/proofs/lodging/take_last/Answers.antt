use Rattle.gathering_steps.specs.session_measure.Weights.{Beside}
use Rattle.std.proofs.Common.{refl, sym, subst, ap, ◌∙◌, Ok, arith}
use Rattle.line_store.specs.Shelves.{seen_by}
use Rattle.line_view.specs.Held.{Held, knows}
use Rattle.kept_apart.specs.Alike.{IsGuarded}
use Rattle.given_rooms.proofs.Learning.{none-guarded}
use Rattle.gathering_steps.specs.session_states.declared.stage.Life.TheVariants.{Alive}
use Rattle.gathering_steps.specs.session_states.declared.stage.Gather.TheVariants.{Lodging as LodgingOf}
use Rattle.gathering_steps.specs.session_states.declared.stage.Work.TheVariants.{Due, Lodging}
use Rattle.gathering_steps.specs.session_states.declared.stage.Stage.TheVariants.{Working, Gathering}
use Rattle.gathering_steps.proofs.of_session_measure.Nearer.{nearer-in-round}
use Rattle.gathering_steps.specs.stage_steps.Turns.{at_stage, shared}
use Rattle.gathering_steps.specs.stage_steps.Scenes.{beside, scene}
use Rattle.gathering_steps.proofs.of_stage_steps.Goes.{goes, goes-still, goes-behind-none, comes-as}
use Rattle.gathering_steps.proofs.of_stage_steps.Nearer.{near-in}
use Rattle.gathering_steps.proofs.of_stage_steps.Resting.{as-before}
use Rattle.gathering_steps.proofs.of_stage_steps.Seated.{rests-at}
use Rattle.room_steps.proofs.Before.{comes-behind}
use Rattle.room_steps.proofs.Lodged.{lodged-off, lodged-last, lodging-still}
use Rattle.room_steps.proofs.lodging.take_last.Goals as goal

pub returns-then-is_err-clause-comes : goal.returns-then-is_err-clause-comes
returns-then-is_err-clause-comes g c =
    comes-behind g.S.Statements.stands g.met.S.Statements.orderly c.args.s.number (at_stage c.args.terms (Gathering c.args.round.item (LodgingOf c.args.given.room c.args.given.key) c.args.round.later c.args.round.place)) (at_stage (record { standing = c.args.terms.standing; known = c.learn.new.known; spoken = c.args.terms.spoken; waits = c.args.terms.waits }) (Working c.args.round.item (Lodging c.args.given.room c.args.given.key))) _ c.args.common.now.word (g.L.LineStore.sight c.args.common.now.store) c.args.common.now.tree _ _
    (λ h dead left total. lodging-still g.S.Statements.stands g.met.S.Statements.orderly c.args.s.number (shared c.args.common.now.word h c.args.common.now.tree dead) left total c.args.terms.standing c.args.terms.known c.learn.new.known c.args.terms.spoken c.args.terms.waits c.args.round.item c.args.given.room c.args.given.key c.args.round.later c.args.round.place (record { agrees = λ ordered. c.learn.ensures.agrees (seen_by c.args.s.number h); guarded = λ got locked. c.learn.ensures.guarded got })) (λ f. rests-at _ _ c.args.s.number _ f.seat f.wants f.needs f.statement) (λ left total. near-in _ c.args.s.number _ _ _ _ _ (c.forgo.ensures.nearer _ _ _ left total refl))
    (c.forgo.ensures.forgoes c.args.common.now.tree (Working c.args.round.item (Lodging c.args.given.room c.args.given.key)) (as-before c.args.common.now.tree) refl refl)

pub returns-in-Ok-true-clause-comes : goal.returns-in-Ok-true-clause-comes
returns-in-Ok-true-clause-comes g c =
    comes-as g.S.Statements.stands c.args.s.number _ _ _ _ _ _ _ (c.quiet.ensures.phase ∙ c.at.ensures) c.quiet.ensures.happened
    (goes c.args.s.number _ Alive _ Alive _ _ _ _ _ (λ e f. rests-at _ _ c.args.s.number _ (e ∙ f.seat) f.wants f.needs f.statement) (λ u other. refl) (nearer-in-round c.args.s.number _ _ _ _ refl refl refl refl (omega arith))
    (λ h k shown told takes dead left total. lodged-last g.S.Statements.stands g.met.S.Statements.orderly c.args.s.number (shared c.args.common.now.word h c.args.common.now.tree dead) left total c.args.terms.standing c.args.terms.known c.learn.new.known c.args.terms.spoken c.args.terms.waits c.args.round.item c.args.given.room c.args.given.key c.args.round.later c.args.round.place k takes (record { agrees = λ ordered. c.learn.ensures.agrees (seen_by c.args.s.number h); guarded = λ got locked. c.learn.ensures.guarded got }))
    (c.take_room.ensures.taken (c.in-Ok-true.is ∙ ap Ok c.in-Ok-true.field-0-test)))

pub returns-in-Ok-false-clause-comes : goal.returns-in-Ok-false-clause-comes
returns-in-Ok-false-clause-comes g c =
    let x = at_stage c.args.terms (Gathering c.args.round.item (LodgingOf c.args.given.room c.args.given.key) c.args.round.later c.args.round.place) in
    let y = at_stage (record { standing = c.args.terms.standing; known = c.forget_rooms.new.self; spoken = c.args.terms.spoken; waits = c.args.terms.waits }) (Working c.args.round.item Due) in
    let b : Beside = beside (scene c.args.common.now.word (g.L.LineStore.sight c.take_room.new.self) c.args.common.now.tree) in
    comes-as g.S.Statements.stands c.args.s.number _ _ x y _ _ _ (c.quiet-in-Ok-false.ensures.phase ∙ c.at-in-Ok-false.ensures) c.quiet-in-Ok-false.ensures.happened
    (goes-behind-none c.args.s.number x y Alive c.args.common.now.word c.args.common.now.tree (g.L.LineStore.sight c.args.common.now.store) (g.L.LineStore.sight c.take_room.new.self) _ _
    (c.take_room.ensures.refused (λ e. cc))
    (goes-still c.args.s.number x Alive y Alive _ _ _ refl (λ f. rests-at _ _ c.args.s.number _ f.seat f.wants f.needs f.statement) (λ u other. refl) (nearer-in-round c.args.s.number b b x y refl refl refl refl (omega arith))
    (λ h shown dead left total. lodged-off g.S.Statements.stands g.met.S.Statements.orderly c.args.s.number (shared c.args.common.now.word h c.args.common.now.tree dead) left total c.args.terms.standing c.args.terms.known c.forget_rooms.new.self c.args.terms.spoken c.args.terms.waits c.args.round.item c.args.given.room c.args.given.key c.args.round.later c.args.round.place (record { agrees = λ ordered agreed. c.forget_rooms.ensures.agrees (seen_by c.args.s.number h) (c.learn.ensures.agrees (seen_by c.args.s.number h) agreed); guarded = λ got locked guarded. subst (λ (k : Held). IsGuarded got (knows k)) (sym c.forget_rooms.ensures.rooms) (none-guarded got c.learn.new.known (c.learn.ensures.guarded got guarded)) }))) (nearer-in-round c.args.s.number _ _ x y refl refl refl refl (omega arith)))

pub returns-clause-comes : goal.returns-clause-comes
returns-clause-comes g c =
    goes-behind-none c.args.s.number (at_stage c.args.terms (Gathering c.args.round.item (LodgingOf c.args.given.room c.args.given.key) c.args.round.later c.args.round.place)) _ Alive c.args.common.now.word c.args.common.now.tree (g.L.LineStore.sight c.args.common.now.store) (g.L.LineStore.sight c.take_room.new.self) _ _
    (c.take_room.ensures.refused (λ e. cc))
    (comes-behind g.S.Statements.stands g.met.S.Statements.orderly c.args.s.number (at_stage c.args.terms (Gathering c.args.round.item (LodgingOf c.args.given.room c.args.given.key) c.args.round.later c.args.round.place)) (at_stage (record { standing = c.args.terms.standing; known = c.learn.new.known; spoken = c.args.terms.spoken; waits = c.args.terms.waits }) (Working c.args.round.item (Lodging c.args.given.room c.args.given.key))) _ c.args.common.now.word (g.L.LineStore.sight c.take_room.new.self) c.args.common.now.tree _ _
    (λ h dead left total. lodging-still g.S.Statements.stands g.met.S.Statements.orderly c.args.s.number (shared c.args.common.now.word h c.args.common.now.tree dead) left total c.args.terms.standing c.args.terms.known c.learn.new.known c.args.terms.spoken c.args.terms.waits c.args.round.item c.args.given.room c.args.given.key c.args.round.later c.args.round.place (record { agrees = λ ordered. c.learn.ensures.agrees (seen_by c.args.s.number h); guarded = λ got locked. c.learn.ensures.guarded got })) (λ f. rests-at _ _ c.args.s.number _ f.seat f.wants f.needs f.statement) (λ left total. near-in _ c.args.s.number _ _ _ _ _ (c.forgo-in-Err.ensures.nearer _ _ _ left total refl))
    (c.forgo-in-Err.ensures.forgoes c.args.common.now.tree (Working c.args.round.item (Lodging c.args.given.room c.args.given.key)) (as-before c.args.common.now.tree) refl refl)) (λ left total. near-in _ c.args.s.number _ _ _ _ _ (c.forgo-in-Err.ensures.nearer _ _ _ left total refl))

pub returns-then-is_err-clause-nearer : goal.returns-then-is_err-clause-nearer
returns-then-is_err-clause-nearer g c b d t room key left total = c.forgo.ensures.nearer b d _ left total refl

pub returns-in-Ok-true-clause-nearer : goal.returns-in-Ok-true-clause-nearer
returns-in-Ok-true-clause-nearer g c b d t room key left total =
    rw (c.quiet.ensures.phase, c.quiet.ensures.happened, c.at.ensures) (nearer-in-round c.args.s.number b d _ _ refl refl refl refl (omega arith) left total)

pub returns-in-Ok-false-clause-nearer : goal.returns-in-Ok-false-clause-nearer
returns-in-Ok-false-clause-nearer g c b d t room key left total =
    rw (c.quiet-in-Ok-false.ensures.phase, c.quiet-in-Ok-false.ensures.happened, c.at-in-Ok-false.ensures) (nearer-in-round c.args.s.number b d _ _ refl refl refl refl (omega arith) left total)

pub returns-clause-nearer : goal.returns-clause-nearer
returns-clause-nearer g c b d t room key left total = c.forgo-in-Err.ensures.nearer b d _ left total refl
