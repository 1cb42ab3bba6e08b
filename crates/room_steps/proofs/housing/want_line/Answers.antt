use Rattle.std.proofs.Common.{ℕ, List, refl, subst, arith, length, ◌-◌}
use Rattle.rdo_ast.specs.declared.syntax.Item.{Item}
use Rattle.line_store.specs.Shelves.{Shelf}
use Rattle.line_view.specs.declared.need.Need.TheVariants.{Room as RoomOf}
use Rattle.gathering_steps.specs.session_states.declared.stage.Life.TheVariants.{Alive}
use Rattle.gathering_steps.specs.session_states.declared.stage.Gather.TheVariants.{Locking, Housing}
use Rattle.gathering_steps.specs.session_states.declared.stage.Work.TheVariants.{Lacking}
use Rattle.gathering_steps.specs.session_states.declared.stage.Stage.{Stage}
use Rattle.gathering_steps.specs.session_states.declared.stage.Stage.TheVariants.{Working, Gathering}
use Rattle.gathering_steps.proofs.of_session_states.Gathering.{drops-on, houses-in-turn}
use Rattle.gathering_steps.specs.session_states.States.{session}
use Rattle.gathering_steps.proofs.of_session_measure.Falling.{by-place, by-round, housed}
use Rattle.gathering_steps.proofs.of_stage_steps.Nearer.{nearer-first}
use Rattle.gathering_steps.proofs.of_stage_steps.Jobs.{none-first}
use Rattle.gathering_steps.specs.stage_steps.Scenes.{ComesIn, beside, scene}
use Rattle.gathering_steps.specs.stage_steps.Turns.{at_stage, shared}
use Rattle.gathering_steps.proofs.of_stage_steps.Goes.{goes-still, comes-as}
use Rattle.gathering_steps.proofs.of_stage_steps.Seated.{rests-at}
use Rattle.room_steps.proofs.Before.{comes-behind}
use Rattle.room_steps.proofs.Housed.{house-seat}
use Rattle.room_steps.proofs.housing.want_line.Goals as goal

pub returns : goal.returns
returns g c =
    let then = (subst (λ (x : Stage). ComesIn g.S.Statements.stands c.args.s.number (scene c.args.common.now.word (g.L.LineStore.sight c.args.common.now.store) c.args.common.now.tree) (at_stage c.args.terms x) (scene c.want.new.common.word (g.L.LineStore.sight c.want.new.common.store) c.want.new.common.tree) c.want.result.phase c.want.result.happened) c.at-stage.ensures c.want.ensures) in
    let b = scene c.args.common.now.word (g.L.LineStore.sight c.args.common.now.store) c.args.common.now.tree in
    let x = at_stage c.args.terms (Gathering c.args.round.item (Locking (RoomOf c.args.room)) c.args.round.later c.args.round.place) in
    let y = at_stage c.args.terms (Gathering c.args.round.item (Housing c.args.room c.args.key) c.args.round.later c.args.round.place) in
    let first = λ (h : Shelf) (dead : ℕ) (left : List Item) (total : ℕ). houses-in-turn g.S.Statements.stands g.met.S.Statements.orderly c.args.s.number (shared c.args.common.now.word h c.args.common.now.tree dead) left total c.args.terms.standing c.args.terms.known c.args.terms.spoken c.args.terms.waits c.args.round.item c.args.room c.args.key c.args.round.later c.args.round.place c.requires.area in
    comes-behind g.S.Statements.stands g.met.S.Statements.orderly c.args.s.number x y _ c.args.common.now.word (g.L.LineStore.sight c.args.common.now.store) c.args.common.now.tree _ _
    first
    (λ f. house-seat _ _ c.args.s.number c.args.terms.standing c.args.terms.known c.args.terms.spoken c.args.terms.waits c.args.round.item f.seat c.requires.closed f.needs f.statement c.args.room c.args.key c.args.round.later c.args.round.place)
    (λ left total. nearer-first g.S.Statements.stands c.args.s.number c.want.result.happened b _ (session left total x) (session left total y) (session left total c.want.result.phase)
    (none-first g.S.Statements.stands g.met.S.Statements.orderly c.args.s.number b (session left total x) (session left total y) (λ h dead. first h dead left total)) (λ k l r. (r, by-place k k c.args.s.number (beside b) (beside b) (session left total x) (session left total y) refl refl refl refl refl (housed (length c.args.round.later - c.args.round.place)))) (λ waits. waits) (then.nearer left total))
    then
