use Rattle.std.proofs.Common.{◌≡◌, ◌+◌, ℕ, Bool, Ok, refl, sym, ap, subst, ◌∙◌, arith}
use Rattle.line_store.specs.Seats.{outside}
use Rattle.line_store.specs.Calls.{GoesOn, IsSaved}
use Rattle.store_endings.specs.disk_store.declared.member.Member.{Member}
use Rattle.store_endings.specs.disk_store.declared.member.MemberStage.TheVariants as stage
use Rattle.store_endings.specs.disk_store.declared.member.Recovery.TheVariants as recovery
use Rattle.store_endings.specs.disk_store.declared.held.Tables.{Tables}
use Rattle.store_endings.specs.disk_store.Grown.{Grow}
use Rattle.store_endings.specs.disk_store.Memory.{StoreMemory, with_member, at_stage}
use Rattle.store_endings.specs.disk_store.Seats.{stand_at, steps_at, steps_of, steps_in}
use Rattle.store_endings.specs.disk_store.Shown.{DoesOn}
use Rattle.store_endings.proofs.of_disk_store.Members.{set-here}
use Rattle.store_endings.proofs.of_disk_store.Closing.{one-member}
use Rattle.store_endings.proofs.of_disk_store.Failing.{does-fail}
use Rattle.store_endings.proofs.of_disk_store.Restored.{keeps-read}
use Rattle.store_endings.proofs.of_disk_store.Judged.{does-lose}
use Rattle.recovery_steps.proofs.Awaited.{awaited}
use Rattle.recovery_steps.proofs.Settling.{told-on, both-read, keeps-both, stable-behind}
use Rattle.recovery_steps.proofs.Saved.{does-save}
use Rattle.store_endings.proofs.of_disk_store.Growing.{grow-landed, grow-same}
use Rattle.store_endings.proofs.of_disk_store.OwnFiles.{own-reads}
use Rattle.recovery_steps.proofs.judging.judge.Goals as goal

pub returns-in_default-clause-comes : goal.returns-in_default-clause-comes
returns-in_default-clause-comes g c =
    let v = g.D.Disk.view c.args.disk.now in
    let w = g.D.Disk.view c.settle.new.disk in
    let at = c.requires.died in
    does-fail v w c.args.held.now c.args.s.number at.member at.is (λ reads. cc) (keeps-read v w c.args.held.now c.args.s.number at.member c.settle.ensures.reads c.settle.ensures.keeps) (λ changes. cc) (c.in_default.ensures.counts.cause refl)

pub returns-in_default-has_group-clause-comes : goal.returns-in_default-has_group-clause-comes
returns-in_default-has_group-clause-comes g c =
    let v = g.D.Disk.view c.args.disk.now in
    let u = g.D.Disk.view c.settle.new.disk in
    let w = g.D.Disk.view c.has_group.new.disk in
    let at = c.requires.died in
    let rose = c.in_default-has_group.ensures.failed refl in
    let before = c.settle.ensures.reads.no_fewer in
    does-fail v w c.args.held.now c.args.s.number at.member at.is (λ reads. cc)
    (keeps-read v w c.args.held.now c.args.s.number at.member (both-read v u w c.settle.ensures.reads c.settle.ensures.keeps c.has_group.ensures.reads) (keeps-both v u w c.settle.ensures.reads c.settle.ensures.keeps c.has_group.ensures.reads)) (λ changes. cc) (omega (arith, rose, before))

pub land-requires-clause-flies : goal.land-requires-clause-flies
land-requires-clause-flies g c m is = let its = awaited c.args.held.now c.args.s.number m c.args.commits c.keeps_commits.ensures c.requires.died is in (its.flies, its.some)

pub returns-then-stands-clause-comes : goal.returns-then-stands-clause-comes
returns-then-stands-clause-comes g c =
    let v = g.D.Disk.view c.args.disk.now in
    let u = g.D.Disk.view c.settle.new.disk in
    let w = g.D.Disk.view c.has_group.new.disk in
    let s = c.args.s.number in
    let held = c.args.held.now in
    let comes = c.land.ensures.comes in
    let m : Member = comes.0 in
    let was = comes.1 in
    let its = awaited held s m c.args.commits c.keeps_commits.ensures c.requires.died was in
    subst (λ new. DoesOn s outside (λ h k. IsSaved s c.moment.result.number h k) v held w new) (sym comes.4)
    (does-save v w held s m was (its.at ∙ ap (λ (b : Bool). stage.Dead b recovery.Judging) its.commits_is)
    (both-read v u w c.settle.ensures.reads c.settle.ensures.keeps c.has_group.ensures.reads) (keeps-both v u w c.settle.ensures.reads c.settle.ensures.keeps c.has_group.ensures.reads)
    (stable-behind v u w c.settle.ensures.reads c.settle.ensures.keeps c.has_group.ensures.reads c.in-Ok.ensures.stable) (λ tells. g.met.D.Disk.content_left c.has_group.new.disk w.moment tells (omega arith)) c.sound.ensures comes.2 comes.3
    (λ t now flight stood. c.in-Ok-has_group.ensures.stands (ap Ok c.if-stands.true) (told-on v u w c.settle.ensures.reads c.settle.ensures.keeps c.has_group.ensures.reads t) m was now flight stood)
    c.moment.result.number c.moment.ensures)

pub returns-clause-comes : goal.returns-clause-comes
returns-clause-comes g c =
    let v = g.D.Disk.view c.args.disk.now in
    let u = g.D.Disk.view c.settle.new.disk in
    let w = g.D.Disk.view c.has_group.new.disk in
    let s = c.args.s.number in
    let held = c.args.held.now in
    let comes = c.set_dead.ensures.comes in
    let m : Member = comes.0 in
    let was = comes.1 in
    let its = awaited held s m c.args.commits c.keeps_commits.ensures c.requires.died was in
    let left : c.member.result.now.journalled ≡ m.journalled = ap (λ (x : Member). x.journalled) (one-member held.members s c.member.result.now m c.member.ensures was) in
    subst (λ new. DoesOn s (stand_at held.members s) (λ h k. GoesOn s h k) v held w new)
    (sym (comes.2 ∙ ap (λ (k : ℕ). with_member s (at_stage (stage.Dead c.args.commits (recovery.Undoing k)) m) held) left))
    (does-lose v w held s m c.args.commits was its.at
    (both-read v u w c.settle.ensures.reads c.settle.ensures.keeps c.has_group.ensures.reads) (keeps-both v u w c.settle.ensures.reads c.settle.ensures.keeps c.has_group.ensures.reads)
    (stable-behind v u w c.settle.ensures.reads c.settle.ensures.keeps c.has_group.ensures.reads c.in-Ok.ensures.stable)
    (λ t now flight stood. c.in-Ok-has_group.ensures.lost (ap Ok c.if-stands.false) (told-on v u w c.settle.ensures.reads c.settle.ensures.keeps c.has_group.ensures.reads t) m was now flight stood))

pub returns-clause-less : goal.returns-clause-less
returns-clause-less g c more =
    let s = c.args.s.number in
    let held = c.args.held.now in
    let at = c.requires.died in
    let comes = c.set_dead.ensures.comes in
    let m : Member = comes.0 in
    let its = awaited held s m c.args.commits c.keeps_commits.ensures c.requires.died comes.1 in
    let left : c.member.result.now.journalled ≡ m.journalled = ap (λ (x : Member). x.journalled) (one-member held.members s c.member.result.now m c.member.ensures comes.1) in
    let next = at_stage (stage.Dead c.args.commits (recovery.Undoing c.member.result.now.journalled)) m in
    let behind : steps_at c.set_dead.new.self.members s ≡ c.member.result.now.journalled + 3 = ap (λ (x : StoreMemory). steps_at x.members s) comes.2 ∙ ap steps_of (set-here held.members s next c.set_dead.ensures.within) in
    let before : steps_at held.members s ≡ m.journalled + 4 = ap steps_of comes.1 ∙ ap (λ x. steps_in x m) its.at in
    omega (arith, behind, before, left)

pub returns-in_default-clause-writes : goal.returns-in_default-clause-writes
returns-in_default-clause-writes g c = own-reads (g.D.Disk.view c.args.disk.now) (g.D.Disk.view c.settle.new.disk) c.settle.ensures.reads

pub returns-in_default-has_group-clause-writes : goal.returns-in_default-has_group-clause-writes
returns-in_default-has_group-clause-writes g c = own-reads (g.D.Disk.view c.args.disk.now) (g.D.Disk.view c.has_group.new.disk) (both-read (g.D.Disk.view c.args.disk.now) (g.D.Disk.view c.settle.new.disk) (g.D.Disk.view c.has_group.new.disk) c.settle.ensures.reads c.settle.ensures.keeps c.has_group.ensures.reads)

pub returns-then-stands-clause-writes : goal.returns-then-stands-clause-writes
returns-then-stands-clause-writes g c = own-reads (g.D.Disk.view c.args.disk.now) (g.D.Disk.view c.has_group.new.disk) (both-read (g.D.Disk.view c.args.disk.now) (g.D.Disk.view c.settle.new.disk) (g.D.Disk.view c.has_group.new.disk) c.settle.ensures.reads c.settle.ensures.keeps c.has_group.ensures.reads)

pub returns-clause-writes : goal.returns-clause-writes
returns-clause-writes g c = own-reads (g.D.Disk.view c.args.disk.now) (g.D.Disk.view c.has_group.new.disk) (both-read (g.D.Disk.view c.args.disk.now) (g.D.Disk.view c.settle.new.disk) (g.D.Disk.view c.has_group.new.disk) c.settle.ensures.reads c.settle.ensures.keeps c.has_group.ensures.reads)

pub returns-in_default-clause-grows : goal.returns-in_default-clause-grows
returns-in_default-clause-grows g c = grow-same c.args.held.now.tables c.args.held.now.tables refl

pub returns-in_default-has_group-clause-grows : goal.returns-in_default-has_group-clause-grows
returns-in_default-has_group-clause-grows g c = grow-same c.args.held.now.tables c.args.held.now.tables refl

pub returns-then-stands-clause-grows : goal.returns-then-stands-clause-grows
returns-then-stands-clause-grows g c =
    let comes = c.land.ensures.comes in
    let m : Member = comes.0 in
    subst (λ (t : Tables). Grow c.args.held.now.tables t) (sym (ap (λ (x : StoreMemory). x.tables) comes.4)) (grow-landed c.args.held.now.tables comes.2 m.written.lines comes.3)

pub returns-clause-grows : goal.returns-clause-grows
returns-clause-grows g c = grow-same c.args.held.now.tables c.set_dead.new.self.tables (ap (λ (x : StoreMemory). x.tables) c.set_dead.ensures.comes.2)
