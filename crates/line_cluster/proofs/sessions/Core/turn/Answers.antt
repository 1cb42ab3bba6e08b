use Rattle.std.proofs.Common.{◌≡◌, ◌-◌, sym, ◌∙◌, ap, refl, subst, slice_get, Bool, false, true, List, Some}
use Rattle.std.proofs.lemmas.Option.{same_Some}
use Rattle.session_states.specs.declared.stage.Member.{Member}
use Rattle.line_account.specs.session_stands.Sessions.{dead_in}
use Rattle.lent_members.specs.Going.{is_over, is_stopping}
use Rattle.line_cluster.specs.Deaths.{lives_in}
use Rattle.line_cluster.specs.Turned.{sessions}
use Rattle.line_cluster.proofs.Coming.{came-from, looked, none-from, on-rests, some-found, still}
use Rattle.line_cluster.proofs.Falling.{stop-may}
use Rattle.line_cluster.proofs.Resting.{asleep-rests-at}
use Rattle.line_cluster.proofs.Room.{room-wider}
use Rattle.line_cluster.proofs.Stepping.{going-on, work-alive}
use Rattle.line_cluster.proofs.sessions.Core.turn.Goals as goal

pub returns-then-is_some-clause-came : goal.returns-then-is_some-clause-came
returns-then-is_some-clause-came g c = (sym c.is_some.ensures ∙ c.if-is_some.true, still (g.O.Origin.opening).stops c.args.s.number _ _ refl refl)

pub returns-then-is_some-2-clause-came : goal.returns-then-is_some-2-clause-came
returns-then-is_some-2-clause-came g c = (refl, some-found c.args.self.now.members.items c.deref.result.now c.first_dead.result c.deref.ensures.value c.first_dead.ensures.dead (sym c.is_some-2.ensures ∙ c.if-is_some-2.true))

pub returns-then-is_over-clause-came : goal.returns-then-is_over-clause-came
returns-then-is_over-clause-came g c = (refl, record { member = c.member_at.result.now; found = (ap (λ (ms : List Member). slice_get ms (c.args.s.number - 1)) (sym c.deref-2.ensures.value) ∙ c.member_at.ensures); over = subst (λ (b : Bool). is_over b c.member_at.result.now c.member_at.result.now.life ≡ true) c.requires.stops (sym c.is_over.ensures ∙ c.if-is_over.true) }, ap dead_in (sym c.deref.ensures.value) ∙ c.first_dead.ensures.none (none-from c.first_dead.result (sym c.is_some-2.ensures ∙ c.if-is_some-2.false)))

pub blocker-requires-clause-lives : goal.blocker-requires-clause-lives
blocker-requires-clause-lives g c = λ m found. work-alive c.args.stops m (looked c.args.stops c.args.self.now.members.items (c.args.s.number - 1) c.member_at.result.now m false (ap (λ (ms : List Member). slice_get ms (c.args.s.number - 1)) (sym c.deref-2.ensures.value) ∙ c.member_at.ensures) (sym c.is_over.ensures ∙ c.if-is_over.false) found)

-- (what is found at its place has work, and hasn't come to a stop)
pub step-requires-clause-work : goal.step-requires-clause-work
step-requires-clause-work g c = λ m found.
    let there : slice_get c.args.self.now.members.items (c.args.s.number - 1) ≡ Some c.member_at-2.result.now = ap (λ (ms : List Member). slice_get ms (c.args.s.number - 1)) (sym c.deref-3.ensures.value) ∙ c.member_at-2.ensures in
    let goes : is_stopping c.args.stops m ≡ false = subst (λ (x : Member). is_stopping c.args.stops x ≡ false) (same_Some c.member_at-2.result.now m (sym there ∙ found)) (sym c.is_stopping.ensures ∙ c.if-is_stopping.false) in
    let work : is_over c.args.stops m m.life ≡ false = looked c.args.stops c.args.self.now.members.items (c.args.s.number - 1) c.member_at.result.now m false (ap (λ (ms : List Member). slice_get ms (c.args.s.number - 1)) (sym c.deref-2.ensures.value) ∙ c.member_at.ensures) (sym c.is_over.ensures ∙ c.if-is_over.false) found in
    going-on c.args.stops m (work-alive c.args.stops m work) work goes

pub step-requires-clause-alive : goal.step-requires-clause-alive
step-requires-clause-alive g c = λ m found. work-alive c.args.stops m (looked c.args.stops c.args.self.now.members.items (c.args.s.number - 1) c.member_at.result.now m false (ap (λ (ms : List Member). slice_get ms (c.args.s.number - 1)) (sym c.deref-2.ensures.value) ∙ c.member_at.ensures) (sym c.is_over.ensures ∙ c.if-is_over.false) found)

-- it has come to its stop

pub fall_here-requires-clause-work : goal.fall_here-requires-clause-work
fall_here-requires-clause-work g c = λ m found. looked c.args.stops c.args.self.now.members.items (c.args.s.number - 1) c.member_at.result.now m false (ap (λ (ms : List Member). slice_get ms (c.args.s.number - 1)) (sym c.deref-2.ensures.value) ∙ c.member_at.ensures) (sym c.is_over.ensures ∙ c.if-is_over.false) found

pub fall_here-requires-clause-mortal : goal.fall_here-requires-clause-mortal
fall_here-requires-clause-mortal g c = λ m found.
    let there : slice_get c.args.self.now.members.items (c.args.s.number - 1) ≡ Some c.member_at-2.result.now = ap (λ (ms : List Member). slice_get ms (c.args.s.number - 1)) (sym c.deref-3.ensures.value) ∙ c.member_at-2.ensures in
    stop-may g.O.Origin.opening c.args.s.number c.args.stops m c.requires.stops
    (subst (λ (x : Member). is_stopping c.args.stops x ≡ true) (same_Some c.member_at-2.result.now m (sym there ∙ found)) (sym c.is_stopping.ensures ∙ c.if-is_stopping.true))

-- no memory was found for its step

pub fall_here-requires-then-is_err-clause-work : goal.fall_here-requires-then-is_err-clause-work
fall_here-requires-then-is_err-clause-work g c = λ m found. looked c.args.stops c.args.self.now.members.items (c.args.s.number - 1) c.member_at.result.now m false (ap (λ (ms : List Member). slice_get ms (c.args.s.number - 1)) (sym c.deref-2.ensures.value) ∙ c.member_at.ensures) (sym c.is_over.ensures ∙ c.if-is_over.false) found

pub fall_here-requires-then-is_err-clause-mortal : goal.fall_here-requires-then-is_err-clause-mortal
fall_here-requires-then-is_err-clause-mortal g c = λ m found. (c.requires.mortal c.args.s.number).1

pub fall_here-requires-then-is_err-clause-kept : goal.fall_here-requires-then-is_err-clause-kept
fall_here-requires-then-is_err-clause-kept g c = room-wider (lives_in c.args.self.now.members.items) _ _ _ _ c.requires.kept c.reserve_step.ensures.len c.reserve_step.ensures.capacity

pub returns-then-is_err-clause-came : goal.returns-then-is_err-clause-came
returns-then-is_err-clause-came g c = came-from (g.O.Origin.opening).stops c.args.s.number _ _ _ c.fall_here-then-is_err.result refl c.reserve_step.ensures.same c.fall_here-then-is_err.ensures.on c.fall_here-then-is_err.ensures.came

pub returns-then-is_err-clause-rests : goal.returns-then-is_err-clause-rests
returns-then-is_err-clause-rests g c = λ told. on-rests g.O.Origin.opening c.args.s.number (sessions c.args.self.now.members.items c.args.self.now.events.items c.args.self.now.allotments (g.L.LineStore.sight c.args.self.now.common.store) c.args.self.now.common.tree c.args.self.now.halt) c.fall_here-then-is_err.result c.fall_here-then-is_err.ensures.on

pub returns-in-Some-clause-rests : goal.returns-in-Some-clause-rests
returns-in-Some-clause-rests g c = λ told. asleep-rests-at g.S.Statements.stands g.O.Origin.opening _ _ _ _ _ c.args.s.number c.in-Some.other.number (sessions c.args.self.now.members.items c.args.self.now.events.items c.args.self.now.allotments (g.L.LineStore.sight c.args.self.now.common.store) c.args.self.now.common.tree c.args.self.now.halt) (c.requires.sound.kept (none-from _ (sym c.is_some.ensures ∙ c.if-is_some.false)) told) c.requires.one.first c.in-Some.ensures.waits

pub returns-clause-rests : goal.returns-clause-rests
returns-clause-rests g c = λ told. on-rests g.O.Origin.opening c.args.s.number (sessions c.args.self.now.members.items c.args.self.now.events.items c.args.self.now.allotments (g.L.LineStore.sight c.args.self.now.common.store) c.args.self.now.common.tree c.args.self.now.halt) c.step.result c.step.ensures.on
