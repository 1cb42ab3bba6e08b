use Rattle.std.proofs.Common.{◌≡◌, ◌∙◌, ap, sym, subst, map, Bool, false, List, Some, slice_get}
use Rattle.rdb_account.specs.Events.{event_of}
use Rattle.session_states.specs.declared.stage.Member.{Member}
use Rattle.lent_members.specs.Going.{is_over}
use Rattle.line_cluster.proofs.Coming.{died-here}
use Rattle.line_cluster.proofs.Faults.{counts-fewer, other-death}
use Rattle.line_cluster.proofs.Stepping.{work-alive}
use Rattle.line_cluster.proofs.Unbroken.{whole-fallen}
use Rattle.line_cluster.proofs.sessions.Core.fall_here.Goals as goal

pub fall-requires-clause-caused : goal.fall-requires-clause-caused
fall-requires-clause-caused g c = λ told. counts-fewer g.O.Origin.faults _ _ (g.L.LineStore.sight c.args.self.now.common.store) (other-death (map event_of c.args.self.now.events.items) c.args.cause c.args.self.now.halt c.requires.whole) (c.requires.sound.causes told)

pub fall-requires-clause-lives : goal.fall-requires-clause-lives
fall-requires-clause-lives g c = λ m found. work-alive c.args.stops m (c.requires.work m found)

pub returns-clause-came : goal.returns-clause-came
returns-clause-came g c =
    let m = c.member_at-member.result.now in
    let found : slice_get c.args.self.now.members.items c.args.at ≡ Some m = ap (λ (ms : List Member). slice_get ms c.args.at) (sym c.deref.ensures.value) ∙ c.member_at-member.ensures in
    died-here (g.O.Origin.opening).stops c.args.s.number c.args.at c.args.cause _ _ m c.requires.own c.requires.at found (subst (λ (b : Bool). is_over b m m.life ≡ false) c.requires.stops (c.requires.work m found)) (c.fall.ensures.died m found) c.fall.ensures.events

pub returns-clause-unbroken : goal.returns-clause-unbroken
returns-clause-unbroken g c =
    let m = c.member_at-member.result.now in
    let found : slice_get c.args.self.now.members.items c.args.at ≡ Some m = ap (λ (ms : List Member). slice_get ms c.args.at) (sym c.deref.ensures.value) ∙ c.member_at-member.ensures in
    whole-fallen c.args.self.now.members.items _ c.args.at m (c.fall.ensures.died m found) c.requires.unbroken
