use Rattle.std.proofs.Common.{◌≡◌, ◌-◌, ◌∙◌, sym, ap, subst, refl, map, slice_get, Bool, List, Some, inl, inr, true, false}
use Rattle.rdb_account.specs.Events.{event_of}
use Rattle.session_states.specs.declared.stage.Member.{Member}
use Rattle.lent_members.specs.Going.{is_over}
use Rattle.line_cluster.proofs.Coming.{has-died, looked, none-from}
use Rattle.line_cluster.proofs.Faults.{counts-fewer, other-death}
use Rattle.line_cluster.proofs.Falling.{let-die}
use Rattle.line_cluster.proofs.Stepping.{work-alive}
use Rattle.line_cluster.proofs.Unbroken.{whole-fallen}
use Rattle.line_cluster.proofs.sessions.Core.die.Goals as goal

pub returns-then-is_some-clause-came : goal.returns-then-is_some-clause-came
returns-then-is_some-clause-came g c = inl (refl, inl (sym c.is_some.ensures ∙ c.if-is_some.true))

pub returns-then-is_over-clause-came : goal.returns-then-is_over-clause-came
returns-then-is_over-clause-came g c = inl (refl, inr (record { member = c.member_at.result.now; found = (ap (λ (ms : List Member). slice_get ms (c.args.s.number - 1)) (sym c.deref.ensures.value) ∙ c.member_at.ensures); over = subst (λ (b : Bool). is_over b c.member_at.result.now c.member_at.result.now.life ≡ true) c.requires.stops (sym c.is_over.ensures ∙ c.if-is_over.true) }))

pub fall-requires-clause-caused : goal.fall-requires-clause-caused
fall-requires-clause-caused g c = λ told. counts-fewer g.O.Origin.faults _ _ (g.L.LineStore.sight c.args.self.now.common.store) (other-death (map event_of c.args.self.now.events.items) c.args.cause c.args.self.now.halt c.requires.own) (c.requires.sound.causes told)

pub fall-requires-clause-lives : goal.fall-requires-clause-lives
fall-requires-clause-lives g c = λ m found. work-alive c.args.stops m (looked c.args.stops c.args.self.now.members.items (c.args.s.number - 1) c.member_at.result.now m false (ap (λ (ms : List Member). slice_get ms (c.args.s.number - 1)) (sym c.deref.ensures.value) ∙ c.member_at.ensures) (sym c.is_over.ensures ∙ c.if-is_over.false) found)

pub returns-clause-came : goal.returns-clause-came
returns-clause-came g c =
    let found : slice_get c.args.self.now.members.items (c.args.s.number - 1) ≡ Some c.member_at.result.now = ap (λ (ms : List Member). slice_get ms (c.args.s.number - 1)) (sym c.deref.ensures.value) ∙ c.member_at.ensures in
    inr (has-died (g.O.Origin.opening).stops c.args.s.number (c.args.s.number - 1) c.args.cause _ _ c.member_at.result.now (sym c.is_some.ensures ∙ c.if-is_some.false) refl found (subst (λ (b : Bool). is_over b c.member_at.result.now c.member_at.result.now.life ≡ false) c.requires.stops (sym c.is_over.ensures ∙ c.if-is_over.false)) (c.fall.ensures.died c.member_at.result.now found)
    c.fall.ensures.events)

pub fall-requires-clause-mortal : goal.fall-requires-clause-mortal
fall-requires-clause-mortal g c = λ m found. let-die g.O.Origin.opening c.args.s.number m.left m.phase c.args.cause c.requires.mortal

pub returns-clause-unbroken : goal.returns-clause-unbroken
returns-clause-unbroken g c = λ going.
    let m = c.member_at.result.now in
    let found : slice_get c.args.self.now.members.items (c.args.s.number - 1) ≡ Some m = ap (λ (ms : List Member). slice_get ms (c.args.s.number - 1)) (sym c.deref.ensures.value) ∙ c.member_at.ensures in
    whole-fallen c.args.self.now.members.items _ (c.args.s.number - 1) m (c.fall.ensures.died m found) (c.requires.unbroken (none-from c.args.self.now.halt (sym c.is_some.ensures ∙ c.if-is_some.false)))
