use Rattle.std.proofs.Common.{◌≡◌, sym, ap, subst, ◌∙◌, arith}
use Rattle.line_store.specs.Seats.{IsAlive, died}
use Rattle.line_store.specs.Sights.{Dies}
use Rattle.disk_store.specs.declared.member.Member.{Member}
use Rattle.disk_store.specs.Dying.{dead_at, forgotten}
use Rattle.disk_store.specs.Memory.{with_member, at_stage}
use Rattle.disk_store.specs.Seats.{stand_of, stand_at}
use Rattle.disk_store.specs.Shown.{DoesOn}
use Rattle.disk_store.proofs.Closing.{one-member}
use Rattle.store_endings.proofs.Deaths.{dies-forgotten, dies-kept}
use Rattle.disk_store.specs.Commits.{is_free, is_flying, IsReady}
use Rattle.disk_store.proofs.DeadStages.{dead-is, dead-flies, dead-free, dead-ready}
use Rattle.store_endings.proofs.dying.die.Goals as goal

pub forget-requires-clause-free : goal.forget-requires-clause-free
forget-requires-clause-free g c =
    let m : Member = c.member-member.result.now in
    ap is_free c.dead-next.ensures ∙ dead-free m.stage m.journalled (sym c.forgets.ensures ∙ c.if-forgets.true)

pub set_dead-requires-clause-dead : goal.set_dead-requires-clause-dead
set_dead-requires-clause-dead g c =
    let m : Member = c.member-member.result.now in
    let dead = dead-is m.stage m.journalled in
    (dead.0, dead.1, c.dead-next.ensures ∙ dead.2)

pub set_dead-requires-clause-flies : goal.set_dead-requires-clause-flies
set_dead-requires-clause-flies g c flies x is =
    let m : Member = c.member-member.result.now in
    ap (λ (y : Member). is_flying y.stage) (one-member c.args.held.now.members c.args.s.number x m is c.member-member.ensures) ∙ dead-flies m.stage m.journalled (ap is_flying (sym c.dead-next.ensures) ∙ flies)

pub set_dead-requires-clause-ready : goal.set_dead-requires-clause-ready
set_dead-requires-clause-ready g c x is =
    let held = c.args.held.now in
    let m : Member = c.member-member.result.now in
    let same : m ≡ x = one-member held.members c.args.s.number m x c.member-member.ensures is in
    subst (λ st. IsReady st held.tables (at_stage st x)) (sym c.dead-next.ensures)
    (subst (λ (y : Member). IsReady (dead_at m.stage m.journalled) held.tables (at_stage (dead_at m.stage m.journalled) y)) same (dead-ready m.stage m.journalled held.tables m (c.keeps_commits.ensures.ready c.args.s.number m c.member-member.ensures)))

pub returns-then-forgets-clause-does : goal.returns-then-forgets-clause-does
returns-then-forgets-clause-does g c =
    let v = g.D.Disk.view c.args._disk.now in
    let s = c.args.s.number in
    let held = c.args.held.now in
    let m : Member = c.member-member.result.now in
    let was = c.member-member.ensures in
    let comes = c.forget.ensures in
    let same : comes.0 ≡ m = one-member held.members s comes.0 m comes.1 was in
    subst (λ new. DoesOn s (died (stand_at held.members s)) (Dies s) v held v new)
    (sym (comes.2 ∙ ap (λ (x : Member). with_member s (forgotten c.dead-next.result x) held) same ∙ ap (λ st. with_member s (forgotten st m) held) c.dead-next.ensures))
    (dies-forgotten v held s m was (sym c.forgets.ensures ∙ c.if-forgets.true))

pub returns-else-forgets-clause-does : goal.returns-else-forgets-clause-does
returns-else-forgets-clause-does g c =
    let v = g.D.Disk.view c.args._disk.now in
    let s = c.args.s.number in
    let held = c.args.held.now in
    let m : Member = c.member-member.result.now in
    let was = c.member-member.ensures in
    let comes = c.set_dead.ensures.comes in
    let same : comes.0 ≡ m = one-member held.members s comes.0 m comes.1 was in
    subst (λ new. DoesOn s (died (stand_at held.members s)) (Dies s) v held v new)
    (sym (comes.2 ∙ ap (λ (x : Member). with_member s (at_stage c.dead-next.result x) held) same ∙ ap (λ st. with_member s (at_stage st m) held) c.dead-next.ensures))
    (dies-kept v held s m was (λ tells. g.met.D.Disk.content_left c.args._disk.now v.moment tells (omega arith)) (sym c.forgets.ensures ∙ c.if-forgets.false) (subst (λ x. IsAlive (stand_of x)) was c.requires.alive))
