use Rattle.std.proofs.Common.{◌≡◌, length, Err, sym, ap, subst, ◌∙◌, arith}
use Rattle.line_store.specs.Seats.{closing, failed_at}
use Rattle.line_store.specs.Calls.{Fails, GoesOn, IsCommitted}
use Rattle.member_steps.specs.declared.committing.CommitTurn.{CommitTurn}
use Rattle.member_steps.specs.declared.committing.CommitTurn.TheVariants.{Entering}
use Rattle.disk_store.specs.declared.member.Member.{Member}
use Rattle.disk_store.specs.declared.member.MemberStage.TheVariants as stage
use Rattle.disk_store.specs.declared.held.Tables.{Tables}
use Rattle.disk_store.specs.Grown.{Grow}
use Rattle.disk_store.specs.Memory.{StoreMemory, with_member, at_stage}
use Rattle.disk_store.specs.Seats.{stand_at, steps_at, steps_of, steps_in, turns_left}
use Rattle.disk_store.specs.Shown.{DoesOn}
use Rattle.disk_store.proofs.Members.{set-here}
use Rattle.disk_store.proofs.CommitsKept.{ready-now}
use Rattle.disk_store.proofs.Closing.{one-member}
use Rattle.commit_steps.proofs.CommitNone.{does-commit-none}
use Rattle.commit_steps.proofs.CommitGoes.{does-further, does-again, less-left}
use Rattle.commit_steps.proofs.CommitLands.{does-last}
use Rattle.disk_store.proofs.Growing.{grow-landed, grow-same}
use Rattle.disk_store.proofs.OwnFiles.{own-none}
use Rattle.commit_steps.proofs.Turning.{writes-own}
use Rattle.commit_steps.proofs.committing.commit_step.Goals as goal

pub returns-then-writes_none-clause-comes : goal.returns-then-writes_none-clause-comes
returns-then-writes_none-clause-comes g c =
    let v = g.D.Disk.view c.args.disk.now in
    let s = c.args.s.number in
    let held = c.args.held.now in
    let none = c.writes_none.ensures.none c.if-writes_none.true in
    let m : Member = none.member in
    let turned = c.turn_of-turn.ensures in
    let at : m.stage ≡ stage.Committing (Entering none.at) = subst (λ (x : Member). x.stage ≡ stage.Committing c.turn_of-turn.result) (one-member held.members s turned.member m turned.is none.is) turned.at ∙ ap stage.Committing none.begins in
    let comes = c.set_stage.ensures.comes in
    let same : comes.0 ≡ m = one-member held.members s comes.0 m comes.1 none.is in
    subst (λ new. DoesOn s closing (λ h k. IsCommitted s c.moment.result.number h k) v held v new)
    (sym (comes.2 ∙ ap (λ (x : Member). with_member s (at_stage stage.Closing x) held) same))
    (does-commit-none v held s m none.is none.at at none.none (c.sound.ensures.each s m none.is).keys (λ tells. g.met.D.Disk.content_left c.args.disk.now v.moment tells (omega arith)) c.moment.result.number c.moment.ensures)

pub returns-then-is_through-clause-comes : goal.returns-then-is_through-clause-comes
returns-then-is_through-clause-comes g c =
    let v = g.D.Disk.view c.args.disk.now in
    let w = g.D.Disk.view c.turn_on.new.disk in
    let s = c.args.s.number in
    let held = c.args.held.now in
    let turn = c.turn_of-turn.result in
    let turned = c.turn_of-turn.ensures in
    let comes = c.land.ensures.comes in
    let m : Member = comes.0 in
    let was = comes.1 in
    let at : m.stage ≡ stage.Committing turn = subst (λ (x : Member). x.stage ≡ stage.Committing turn) (one-member held.members s turned.member m turned.is was) turned.at in
    subst (λ new. DoesOn s closing (λ h k. IsCommitted s c.moment-then-is_through.result.number h k) v held w new) (sym comes.4)
    (does-last v w held s m was turn c.in-Ok.next at c.sound.ensures c.keeps_commits.ensures (ready-now held s m turn c.keeps_commits.ensures turned was).0 (c.is_through.ensures.yes c.if-is_through.true) (c.in-Ok.ensures m was) comes.2 comes.3
    (λ tells. g.met.D.Disk.content_left c.turn_on.new.disk w.moment tells (omega arith)) c.moment-then-is_through.result.number c.moment-then-is_through.ensures)

pub returns-else-is_through-clause-comes : goal.returns-else-is_through-clause-comes
returns-else-is_through-clause-comes g c =
    let v = g.D.Disk.view c.args.disk.now in
    let w = g.D.Disk.view c.turn_on.new.disk in
    let s = c.args.s.number in
    let held = c.args.held.now in
    let turn = c.turn_of-turn.result in
    let turned = c.turn_of-turn.ensures in
    let comes = c.set_turn.ensures.comes in
    let m : Member = comes.0 in
    let was = comes.1 in
    let at : m.stage ≡ stage.Committing turn = subst (λ (x : Member). x.stage ≡ stage.Committing turn) (one-member held.members s turned.member m turned.is was) turned.at in
    subst (λ new. DoesOn s (stand_at held.members s) (λ h k. GoesOn s h k) v held w new) (sym comes.2)
    (does-further v w held s m was turn c.in-Ok.next at c.sound.ensures c.keeps_commits.ensures (ready-now held s m turn c.keeps_commits.ensures turned was).0 (c.in-Ok.ensures m was) (c.is_through.ensures.no c.if-is_through.false)
    (λ tells. g.met.D.Disk.content_left c.args.disk.now v.moment tells (omega arith)))

pub returns-else-is_through-clause-less : goal.returns-else-is_through-clause-less
returns-else-is_through-clause-less g c more =
    let v = g.D.Disk.view c.args.disk.now in
    let w = g.D.Disk.view c.turn_on.new.disk in
    let s = c.args.s.number in
    let held = c.args.held.now in
    let turn = c.turn_of-turn.result in
    let turned = c.turn_of-turn.ensures in
    let comes = c.set_turn.ensures.comes in
    let m : Member = comes.0 in
    let was = comes.1 in
    let at : m.stage ≡ stage.Committing turn = subst (λ (x : Member). x.stage ≡ stage.Committing turn) (one-member held.members s turned.member m turned.is was) turned.at in
    let behind : steps_at c.set_turn.new.self.members s ≡ turns_left (length m.written.keys) c.in-Ok.next = ap (λ (x : StoreMemory). steps_at x.members s) comes.2 ∙ ap steps_of (set-here held.members s (at_stage (stage.Committing c.in-Ok.next) m) c.set_turn.ensures.within) in
    let before : steps_at held.members s ≡ turns_left (length m.written.keys) turn = ap steps_of was ∙ ap (λ st. steps_in st m) at in
    let less = less-left v w held s m was turn c.in-Ok.next at c.sound.ensures c.keeps_commits.ensures (ready-now held s m turn c.keeps_commits.ensures turned was).0 (c.in-Ok.ensures m was) (c.is_through.ensures.no c.if-is_through.false) in
    omega (arith, behind, before, less)

pub returns-in-Err-clause-comes : goal.returns-in-Err-clause-comes
returns-in-Err-clause-comes g c =
    let v = g.D.Disk.view c.args.disk.now in
    let w = g.D.Disk.view c.turn_on.new.disk in
    let s = c.args.s.number in
    let held = c.args.held.now in
    let turn = c.turn_of-turn.result in
    let turned = c.turn_of-turn.ensures in
    let comes = c.set_turn-in-Err.ensures.comes in
    let m : Member = comes.0 in
    let was = comes.1 in
    let at : m.stage ≡ stage.Committing turn = subst (λ (x : Member). x.stage ≡ stage.Committing turn) (one-member held.members s turned.member m turned.is was) turned.at in
    let makes = c.in-Err.ensures m was in
    subst (λ new. DoesOn s (failed_at (stand_at held.members s)) (λ h k. Fails s c.in-Err.fault h k) v held w new)
    (sym (comes.2 ∙ ap (λ (t : CommitTurn). with_member s (at_stage (stage.Committing t) m) held) c.made_again.ensures))
    (does-again v w held s m was turn at c.sound.ensures c.keeps_commits.ensures (ready-now held s m turn c.keeps_commits.ensures turned was).0 (Err c.in-Err.fault) makes c.in-Err.fault (λ e. makes.failed (ap Err e)) (λ file slot e. ap Err e))

pub returns-then-writes_none-clause-writes : goal.returns-then-writes_none-clause-writes
returns-then-writes_none-clause-writes g c = own-none (g.D.Disk.view c.args.disk.now)

pub returns-then-is_through-clause-writes : goal.returns-then-is_through-clause-writes
returns-then-is_through-clause-writes g c = let comes = c.land.ensures.comes in writes-own (g.D.Disk.view c.args.disk.now) (g.D.Disk.view c.turn_on.new.disk) (c.in-Ok.ensures comes.0 comes.1).writes

pub returns-else-is_through-clause-writes : goal.returns-else-is_through-clause-writes
returns-else-is_through-clause-writes g c = let comes = c.set_turn.ensures.comes in writes-own (g.D.Disk.view c.args.disk.now) (g.D.Disk.view c.turn_on.new.disk) (c.in-Ok.ensures comes.0 comes.1).writes

pub returns-in-Err-clause-writes : goal.returns-in-Err-clause-writes
returns-in-Err-clause-writes g c = let comes = c.set_turn-in-Err.ensures.comes in writes-own (g.D.Disk.view c.args.disk.now) (g.D.Disk.view c.turn_on.new.disk) (c.in-Err.ensures comes.0 comes.1).writes

pub returns-then-writes_none-clause-grows : goal.returns-then-writes_none-clause-grows
returns-then-writes_none-clause-grows g c = grow-same c.args.held.now.tables c.set_stage.new.self.tables (ap (λ (x : StoreMemory). x.tables) c.set_stage.ensures.comes.2)

pub returns-then-is_through-clause-grows : goal.returns-then-is_through-clause-grows
returns-then-is_through-clause-grows g c =
    let comes = c.land.ensures.comes in
    let m : Member = comes.0 in
    subst (λ (t : Tables). Grow c.args.held.now.tables t) (sym (ap (λ (x : StoreMemory). x.tables) comes.4)) (grow-landed c.args.held.now.tables comes.2 m.written.lines comes.3)

pub returns-else-is_through-clause-grows : goal.returns-else-is_through-clause-grows
returns-else-is_through-clause-grows g c = grow-same c.args.held.now.tables c.set_turn.new.self.tables (ap (λ (x : StoreMemory). x.tables) c.set_turn.ensures.comes.2)

pub returns-in-Err-clause-grows : goal.returns-in-Err-clause-grows
returns-in-Err-clause-grows g c = grow-same c.args.held.now.tables c.set_turn-in-Err.new.self.tables (ap (λ (x : StoreMemory). x.tables) c.set_turn-in-Err.ensures.comes.2)
