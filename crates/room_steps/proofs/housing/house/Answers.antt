use Rattle.std.proofs.Common.{ℕ, List, refl, subst, arith, length, ◌-◌}
use Rattle.rdo_ast.specs.declared.syntax.Item.{Item}
use Rattle.line_store.specs.Shelves.{Shelf}
use Rattle.line_view.specs.declared.need.Need.TheVariants.{Room as RoomOf}
use Rattle.gathering_steps.specs.session_states.declared.stage.Life.TheVariants.{Alive}
use Rattle.gathering_steps.specs.session_states.declared.stage.Gather.TheVariants.{Locking, Housing}
use Rattle.gathering_steps.specs.session_states.declared.stage.Work.TheVariants.{Lacking}
use Rattle.gathering_steps.specs.session_states.declared.stage.Stage.{Stage}
use Rattle.gathering_steps.specs.session_states.declared.stage.Stage.TheVariants.{Working, Gathering}
use Rattle.gathering_steps.proofs.of_session_states.Gathering.{drops-on, houses-in-turn}
use Rattle.gathering_steps.specs.session_states.States.{session}
use Rattle.gathering_steps.proofs.of_session_measure.Falling.{by-place, by-round, housed}
use Rattle.gathering_steps.proofs.of_stage_steps.Nearer.{nearer-first}
use Rattle.gathering_steps.proofs.of_stage_steps.Jobs.{none-first}
use Rattle.gathering_steps.specs.stage_steps.Scenes.{ComesIn, beside, scene}
use Rattle.gathering_steps.specs.stage_steps.Turns.{at_stage, shared}
use Rattle.gathering_steps.proofs.of_stage_steps.Goes.{goes-still, comes-as}
use Rattle.gathering_steps.proofs.of_stage_steps.Seated.{rests-at}
use Rattle.room_steps.specs.Naming.{IsLineFor, IsNamed}
use Rattle.room_steps.specs.declared.naming.Named.{Named}
use Rattle.room_steps.proofs.Before.{comes-behind}
use Rattle.room_steps.proofs.Housed.{house-seat}
use Rattle.room_steps.proofs.housing.house.Goals as goal

pub returns-in-Line : goal.returns-in-Line
returns-in-Line g c = c.want_line.ensures

pub returns-in-Awaited : goal.returns-in-Awaited
returns-in-Awaited g c = c.want_line-in-Awaited.ensures

pub returns-in-Full : goal.returns-in-Full
returns-in-Full g c =
    let b = scene c.args.common.now.word (g.L.LineStore.sight c.args.common.now.store) c.args.common.now.tree in
    let x = at_stage c.args.terms (Gathering c.args.round.item (Locking (RoomOf c.args.room)) c.args.round.later c.args.round.place) in
    let y = at_stage c.args.terms (Working c.args.round.item (Lacking (RoomOf c.args.room))) in
    let first = λ (h : Shelf) (dead : ℕ) (left : List Item) (total : ℕ). drops-on g.S.Statements.stands g.met.S.Statements.orderly c.args.s.number (shared c.args.common.now.word h c.args.common.now.tree dead) left total c.args.terms.standing c.args.terms.known c.args.terms.spoken c.args.terms.waits c.args.round.item (RoomOf c.args.room) c.args.round.later c.args.round.place in
    comes-behind g.S.Statements.stands g.met.S.Statements.orderly c.args.s.number x y _ c.args.common.now.word (g.L.LineStore.sight c.args.common.now.store) c.args.common.now.tree _ _
    first
    (λ f. rests-at _ _ c.args.s.number _ f.seat f.wants f.needs f.statement)
    (λ left total. nearer-first g.S.Statements.stands c.args.s.number c.refuse_full.result.happened b _ (session left total x) (session left total y) (session left total c.refuse_full.result.phase)
    (none-first g.S.Statements.stands g.met.S.Statements.orderly c.args.s.number b (session left total x) (session left total y) (λ h dead. first h dead left total)) (λ k l r. (r, by-round k k c.args.s.number (beside b) (beside b) (session left total x) (session left total y) refl refl refl refl (omega arith))) (λ waits. waits) (c.refuse_full.ensures.nearer left total))
    c.refuse_full.ensures

pub returns-in-Unfit : goal.returns-in-Unfit
returns-in-Unfit g c =
    comes-as g.S.Statements.stands c.args.s.number _ _ _ _ _ _ _ c.unworked.ensures.phase c.unworked.ensures.happened
    (goes-still c.args.s.number _ Alive _ Alive _ _ _ refl (λ f. rests-at _ _ c.args.s.number _ f.seat f.wants f.needs f.statement) (λ u other. refl) (λ left total. tt)
    (λ h shown dead left total. drops-on g.S.Statements.stands g.met.S.Statements.orderly c.args.s.number (shared c.args.common.now.word h c.args.common.now.tree dead) left total c.args.terms.standing c.args.terms.known c.args.terms.spoken c.args.terms.waits c.args.round.item (RoomOf c.args.room) c.args.round.later c.args.round.place))
