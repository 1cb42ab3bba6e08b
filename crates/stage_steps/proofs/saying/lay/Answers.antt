use Rattle.session_limits.specs.session_states.declared.stage.Life.TheVariants.{Alive}
use Rattle.std.proofs.Common.{refl, ◌∙◌, [], sym, subst, List, arith}
use Rattle.line_view.specs.declared.writes.Write.{Write}
use Rattle.line_store.specs.Calls.{Changes}
use Rattle.session_limits.specs.session_states.declared.stage.Laying.TheVariants.{Claiming}
use Rattle.session_limits.specs.session_states.declared.stage.Stage.TheVariants.{Between, Saying}
use Rattle.session_limits.specs.session_states.Fits.{Follows}
use Rattle.session_limits.proofs.of_session_states.Storing.{changes-on}
use Rattle.session_measure.proofs.Nearer.{nearer-by-rank, nearer-answered}
use Rattle.rdo_ast.specs.declared.reply.Reply.TheVariants.{RujFull, SnapFull}
use Rattle.stage_steps.specs.declared.happening.Happening.TheVariants.{Answered, Unlaid}
use Rattle.stage_steps.specs.Scenes.{Scene, scene}
use Rattle.stage_steps.specs.Turns.{at_stage, shared}
use Rattle.stage_steps.proofs.Firsts.{at-once-said, ruj-step, snap-step, stopped}
use Rattle.stage_steps.proofs.Goes.{goes, goes-still, goes-staying, goes-behind-none, comes-as}
use Rattle.stage_steps.proofs.Nearer.{near-in}
use Rattle.stage_steps.proofs.Resting.{as-before}
use Rattle.stage_steps.proofs.Seated.{rests-at, unwanted}
use Rattle.stage_steps.proofs.Unchanged.{knows-as, stays-on}
use Rattle.stage_steps.proofs.saying.lay.Goals as goal

pub returns-then-not-stands : goal.returns-then-not-stands
returns-then-not-stands g c = c.refuse_start.ensures c.args.place

pub returns-then-not-has_to_lay : goal.returns-then-not-has_to_lay
returns-then-not-has_to_lay g c =
    comes-as g.S.Statements.stands c.args.s.number _ _ _ _ _ _ _ c.say.ensures.phase c.say.ensures.happened
    (goes-still c.args.s.number _ Alive _ Alive _ _ _ refl (λ f. rests-at _ _ c.args.s.number _ f.seat (unwanted _ _ c.requires.locked f.wants) f.needs tt) (λ u other. refl) (nearer-answered c.args.s.number _ _ _ _ (omega arith))
    (λ h shown dead left total. at-once-said g.S.Statements.stands g.met.S.Statements.orderly c.args.s.number (shared c.args.common.now.word h c.args.common.now.tree dead) left total c.args.terms.standing c.args.terms.known c.args.terms.spoken c.args.terms.waits c.args.item c.args.worked c.args.place c.requires.locked (sym c.stands.ensures ∙ c.if-not-stands.false) (c.has_to_lay.ensures.rests c.if-not-has_to_lay.true)))

pub returns-in-Ok : goal.returns-in-Ok
returns-in-Ok g c =
    let follows : Follows c.args.worked.writes c.args.terms.known c.apply.new.known = subst (λ (ws : List Write). Follows ws c.args.terms.known c.apply.new.known) c.as_slice-writes.ensures (record { agrees = c.in-Ok.ensures.follows; guarded = c.apply.ensures.guarded }) in
    comes-as g.S.Statements.stands c.args.s.number _ _ _ _ _ _ _ (c.quiet.ensures.phase ∙ c.at.ensures) c.quiet.ensures.happened
    (goes c.args.s.number _ Alive _ Alive _ _ _ _ _ (λ e f. rests-at _ _ c.args.s.number _ e (unwanted _ _ c.requires.locked f.wants) f.needs f.statement) (λ u other. refl) (nearer-by-rank c.args.s.number _ _ _ _ refl (omega arith))
    (λ h k shown told r dead left total. changes-on g.S.Statements.stands g.met.S.Statements.orderly c.args.s.number (shared c.args.common.now.word h c.args.common.now.tree dead) k left total c.args.terms.standing c.args.terms.known c.apply.new.known c.args.terms.spoken c.args.terms.waits c.args.item c.args.worked c.args.place c.requires.locked (sym c.stands.ensures ∙ c.if-not-stands.false) c.requires.member (subst (λ (ws : List Write). Changes c.args.s.number ws h k) c.as_slice-writes.ensures r.changes) follows)
    c.in-Ok.ensures.ok)

pub returns-in-Err-NoMemory : goal.returns-in-Err-NoMemory
returns-in-Err-NoMemory g c =
    goes-behind-none c.args.s.number _ _ Alive c.args.common.now.word c.args.common.now.tree _ (g.L.LineStore.sight c.apply.new.store) _ _ c.in-Err-NoMemory.ensures.err
    (knows-as g.S.Statements.stands c.args.s.number _ _ _ _ c.args.terms.standing c.args.terms.known c.apply.new.known c.args.terms.spoken c.args.terms.waits (Saying c.args.item c.args.worked (Claiming c.args.place)) c.in-Err-NoMemory.ensures.kept (c.forgo.ensures.forgoes c.args.common.now.tree (Saying c.args.item c.args.worked (Claiming c.args.place)) (as-before c.args.common.now.tree) refl refl)) (λ left total. near-in _ c.args.s.number _ _ _ _ _ (c.forgo.ensures.nearer _ _ _ left total refl))

pub returns-in-Err-RujFull : goal.returns-in-Err-RujFull
returns-in-Err-RujFull g c =
    let may = c.has_to_lay.ensures.lays c.if-not-has_to_lay.false in
    let here : Scene = scene c.args.common.now.word (g.L.LineStore.sight c.args.common.now.store) c.args.common.now.tree in
    let there : Scene = scene c.args.common.now.word (g.L.LineStore.sight c.apply.new.store) c.args.common.now.tree in
    let was = at_stage (record { standing = c.args.terms.standing; known = c.apply.new.known; spoken = c.args.terms.spoken; waits = c.args.terms.waits }) (Saying c.args.item c.args.worked (Claiming c.args.place)) in
    let is = at_stage (record { standing = c.args.terms.standing; known = c.apply.new.known; spoken = c.args.terms.spoken; waits = c.args.terms.waits }) Between in
    let told = Answered (record { item = c.args.item; keys = []; reply = RujFull c.in-Err-RujFull.limit }) in
    comes-as g.S.Statements.stands c.args.s.number here there (at_stage c.args.terms (Saying c.args.item c.args.worked (Claiming c.args.place))) is _ told _ c.refuse_at_limit.ensures.phase c.refuse_at_limit.ensures.happened
    (knows-as g.S.Statements.stands c.args.s.number here there is told c.args.terms.standing c.args.terms.known c.apply.new.known c.args.terms.spoken c.args.terms.waits (Saying c.args.item c.args.worked (Claiming c.args.place)) c.in-Err-RujFull.ensures.kept
    (goes c.args.s.number was Alive is Alive _ _ _ here there (λ e f. rests-at _ _ c.args.s.number _ (e ∙ f.seat) (unwanted _ _ c.requires.locked f.wants) f.needs tt) (λ u other. refl) (nearer-answered c.args.s.number _ _ (at_stage (record { standing = c.args.terms.standing; known = c.apply.new.known; spoken = c.args.terms.spoken; waits = c.args.terms.waits }) (Saying c.args.item c.args.worked (Claiming c.args.place))) (at_stage (record { standing = c.args.terms.standing; known = c.apply.new.known; spoken = c.args.terms.spoken; waits = c.args.terms.waits }) Between) (omega arith))
    (λ h k shown told same dead left total. rw same (ruj-step g.S.Statements.stands g.met.S.Statements.orderly c.args.s.number (shared c.args.common.now.word h c.args.common.now.tree dead) left total c.args.terms.standing c.apply.new.known c.args.terms.spoken c.args.terms.waits c.args.item c.args.worked c.args.place c.in-Err-RujFull.limit c.requires.locked may.1 may.0 (stopped h c.args.s.number _ _ _ _ c.as_slice-writes.ensures c.in-Err-RujFull.field-0-is (c.in-Err-RujFull.ensures.cause h shown))))
    c.in-Err-RujFull.ensures.err))

pub returns-in-Err-SnapFull : goal.returns-in-Err-SnapFull
returns-in-Err-SnapFull g c =
    let may = c.has_to_lay.ensures.lays c.if-not-has_to_lay.false in
    let here : Scene = scene c.args.common.now.word (g.L.LineStore.sight c.args.common.now.store) c.args.common.now.tree in
    let there : Scene = scene c.args.common.now.word (g.L.LineStore.sight c.apply.new.store) c.args.common.now.tree in
    let was = at_stage (record { standing = c.args.terms.standing; known = c.apply.new.known; spoken = c.args.terms.spoken; waits = c.args.terms.waits }) (Saying c.args.item c.args.worked (Claiming c.args.place)) in
    let is = at_stage (record { standing = c.args.terms.standing; known = c.apply.new.known; spoken = c.args.terms.spoken; waits = c.args.terms.waits }) Between in
    let told = Answered (record { item = c.args.item; keys = []; reply = SnapFull c.in-Err-SnapFull.limit }) in
    comes-as g.S.Statements.stands c.args.s.number here there (at_stage c.args.terms (Saying c.args.item c.args.worked (Claiming c.args.place))) is _ told _ c.refuse_at_limit-in-Err-SnapFull.ensures.phase c.refuse_at_limit-in-Err-SnapFull.ensures.happened
    (knows-as g.S.Statements.stands c.args.s.number here there is told c.args.terms.standing c.args.terms.known c.apply.new.known c.args.terms.spoken c.args.terms.waits (Saying c.args.item c.args.worked (Claiming c.args.place)) c.in-Err-SnapFull.ensures.kept
    (goes c.args.s.number was Alive is Alive _ _ _ here there (λ e f. rests-at _ _ c.args.s.number _ (e ∙ f.seat) (unwanted _ _ c.requires.locked f.wants) f.needs tt) (λ u other. refl) (nearer-answered c.args.s.number _ _ (at_stage (record { standing = c.args.terms.standing; known = c.apply.new.known; spoken = c.args.terms.spoken; waits = c.args.terms.waits }) (Saying c.args.item c.args.worked (Claiming c.args.place))) (at_stage (record { standing = c.args.terms.standing; known = c.apply.new.known; spoken = c.args.terms.spoken; waits = c.args.terms.waits }) Between) (omega arith))
    (λ h k shown told same dead left total. rw same (snap-step g.S.Statements.stands g.met.S.Statements.orderly c.args.s.number (shared c.args.common.now.word h c.args.common.now.tree dead) left total c.args.terms.standing c.apply.new.known c.args.terms.spoken c.args.terms.waits c.args.item c.args.worked c.args.place c.in-Err-SnapFull.limit c.requires.member c.requires.locked may.1 may.0 (stopped h c.args.s.number _ _ _ _ c.as_slice-writes.ensures c.in-Err-SnapFull.field-0-is (c.in-Err-SnapFull.ensures.cause h shown))))
    c.in-Err-SnapFull.ensures.err))

pub returns-in-Err-Unfit : goal.returns-in-Err-Unfit
returns-in-Err-Unfit g c =
    rw c.at-in-Err-Unfit.ensures (knows-as g.S.Statements.stands c.args.s.number _ _ _ (Unlaid c.in-Err-Unfit.key) c.args.terms.standing c.args.terms.known c.apply.new.known c.args.terms.spoken c.args.terms.waits (Saying c.args.item c.args.worked (Claiming c.args.place)) c.in-Err-Unfit.ensures.kept
    (goes-staying c.args.s.number _ c.args.common.now.word c.args.common.now.tree _ _ _ c.in-Err-Unfit.ensures.err (λ left total. tt) (λ h dead. stays-on g.S.Statements.stands g.met.S.Statements.orderly c.args.s.number (shared c.args.common.now.word h c.args.common.now.tree dead) _)))
