use Rattle.std.proofs.Common.{◌≡◌, refl, sym, subst, ap, ◌∙◌, arith}
use Rattle.line_store.specs.Calls.{GoesOn}
use Rattle.disk_store.specs.declared.member.Member.{Member}
use Rattle.disk_store.specs.declared.member.MemberStage.TheVariants as stage
use Rattle.disk_store.specs.declared.member.Recovery.TheVariants as recovery
use Rattle.disk_store.specs.Memory.{StoreMemory, with_member, at_stage}
use Rattle.disk_store.specs.Seats.{stand_at, steps_at, steps_of, steps_in}
use Rattle.disk_store.specs.Shown.{DoesOn}
use Rattle.disk_store.proofs.Members.{set-here}
use Rattle.disk_store.proofs.Failing.{does-fail}
use Rattle.disk_store.proofs.Closing.{one-member}
use Rattle.disk_store.proofs.Restored.{keeps-read, does-restore}
use Rattle.disk_store.specs.Commits.{is_flying}
use Rattle.disk_store.proofs.OwnFiles.{own-reads}
use Rattle.store_endings.proofs.restoring.restore.Goals as goal

pub set_dead-requires-clause-flies : goal.set_dead-requires-clause-flies
set_dead-requires-clause-flies g c flies x is =
    let at = c.requires.died in
    ap (λ (y : Member). is_flying y.stage) (one-member c.args.held.now.members c.args.s.number x at.member is at.is) ∙ (ap is_flying at.at ∙ flies)

pub returns-in_default-clause-comes : goal.returns-in_default-clause-comes
returns-in_default-clause-comes g c =
    let v = g.D.Disk.view c.args.disk.now in
    let w = g.D.Disk.view c.settle.new.disk in
    let at = c.requires.died in
    does-fail v w c.args.held.now c.args.s.number at.member at.is (λ reads. cc) (keeps-read v w c.args.held.now c.args.s.number at.member c.settle.ensures.reads c.settle.ensures.keeps) (λ changes. cc) (c.in_default.ensures.counts.cause refl)

pub returns-clause-comes : goal.returns-clause-comes
returns-clause-comes g c =
    let v = g.D.Disk.view c.args.disk.now in
    let w = g.D.Disk.view c.settle.new.disk in
    let s = c.args.s.number in
    let held = c.args.held.now in
    let at = c.requires.died in
    let comes = c.set_dead.ensures.comes in
    let same : comes.0 ≡ at.member = one-member held.members s comes.0 at.member comes.1 at.is in
    subst (λ new. DoesOn s (stand_at held.members s) (λ h k. GoesOn s h k) v held w new)
    (sym (comes.2 ∙ ap (λ (x : Member). with_member s (at_stage (stage.Dead c.args.commits recovery.Ending) x) held) same))
    (does-restore v w held s at.member c.args.commits at.is at.at c.settle.ensures.reads c.settle.ensures.keeps c.in-Ok.ensures.stable (λ tells. g.met.D.Disk.content_left c.settle.new.disk w.moment tells (omega arith)))

pub returns-clause-less : goal.returns-clause-less
returns-clause-less g c more =
    let s = c.args.s.number in
    let held = c.args.held.now in
    let at = c.requires.died in
    let comes = c.set_dead.ensures.comes in
    let next = at_stage (stage.Dead c.args.commits recovery.Ending) comes.0 in
    let behind : steps_at c.set_dead.new.self.members s ≡ 1 = ap (λ (x : StoreMemory). steps_at x.members s) comes.2 ∙ ap steps_of (set-here held.members s next c.set_dead.ensures.within) in
    let before : steps_at held.members s ≡ 2 = ap steps_of at.is ∙ ap (λ x. steps_in x at.member) at.at in
    omega (arith, behind, before)

pub returns-in_default-clause-writes : goal.returns-in_default-clause-writes
returns-in_default-clause-writes g c = own-reads (g.D.Disk.view c.args.disk.now) (g.D.Disk.view c.settle.new.disk) c.settle.ensures.reads

pub returns-clause-writes : goal.returns-clause-writes
returns-clause-writes g c = own-reads (g.D.Disk.view c.args.disk.now) (g.D.Disk.view c.settle.new.disk) c.settle.ensures.reads
