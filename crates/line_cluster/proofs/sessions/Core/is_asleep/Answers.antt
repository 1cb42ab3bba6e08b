use Rattle.std.proofs.Common.{◌≡◌, ◌-◌, ◌∙◌, List, Some, ap, slice_get, sym}
use Rattle.session_states.specs.declared.stage.Member.{Member}
use Rattle.line_account.specs.session_stands.Sessions.{dead_in}
use Rattle.line_cluster.specs.Turned.{sessions}
use Rattle.line_cluster.proofs.Asleep.{halted-awake, hasty-awake, mourning-awake, sleeps-where}
use Rattle.line_cluster.proofs.Coming.{none-from, some-found}
use Rattle.line_cluster.proofs.sessions.Core.is_asleep.Goals as goal

pub returns-then-is_some : goal.returns-then-is_some
returns-then-is_some g c =
    sym (halted-awake (sessions c.args.self.now.members.items c.args.self.now.events.items c.args.self.now.allotments (g.L.LineStore.sight c.args.self.now.common.store) c.args.self.now.common.tree c.args.self.now.halt) c.args.s.number (sym c.is_some.ensures ∙ c.if-is_some.true))

pub returns-then-is_some-2 : goal.returns-then-is_some-2
returns-then-is_some-2 g c =
    sym (mourning-awake (sessions c.args.self.now.members.items c.args.self.now.events.items c.args.self.now.allotments (g.L.LineStore.sight c.args.self.now.common.store) c.args.self.now.common.tree c.args.self.now.halt) c.args.s.number
    (some-found c.args.self.now.members.items c.deref.result.now c.first_dead.result c.deref.ensures.value c.first_dead.ensures.dead (sym c.is_some-2.ensures ∙ c.if-is_some-2.true)))

pub returns-then-not-is_patient : goal.returns-then-not-is_patient
returns-then-not-is_patient g c =
    let found : slice_get c.args.self.now.members.items (c.args.s.number - 1) ≡ Some c.member_at.result.now = ap (λ (ms : List Member). slice_get ms (c.args.s.number - 1)) (sym c.deref-2.ensures.value) ∙ c.member_at.ensures in
    sym (hasty-awake (sessions c.args.self.now.members.items c.args.self.now.events.items c.args.self.now.allotments (g.L.LineStore.sight c.args.self.now.common.store) c.args.self.now.common.tree c.args.self.now.halt) c.args.s.number c.member_at.result.now c.requires.one.first found (sym c.is_patient.ensures ∙ c.if-not-is_patient.true))

pub returns : goal.returns
returns g c =
    let found : slice_get c.args.self.now.members.items (c.args.s.number - 1) ≡ Some c.member_at.result.now = ap (λ (ms : List Member). slice_get ms (c.args.s.number - 1)) (sym c.deref-2.ensures.value) ∙ c.member_at.ensures in
    let lives : dead_in c.args.self.now.members.items ≡ 0 = ap dead_in (sym c.deref.ensures.value) ∙ c.first_dead.ensures.none (none-from c.first_dead.result (sym c.is_some-2.ensures ∙ c.if-is_some-2.false)) in
    c.is_some-3.ensures ∙ sleeps-where (sessions c.args.self.now.members.items c.args.self.now.events.items c.args.self.now.allotments (g.L.LineStore.sight c.args.self.now.common.store) c.args.self.now.common.tree c.args.self.now.halt) c.args.s.number c.member_at.result.now c.requires.one.first
    (sym c.is_some.ensures ∙ c.if-is_some.false) lives found (sym c.is_patient.ensures ∙ c.if-not-is_patient.false) c.blocker.result c.blocker.ensures.waits c.blocker.ensures.none
