use Rattle.std.proofs.Common.{◌≡◌, ◌-◌, IsTrue, Err, inl, inr, sym, ap, subst, ◌∙◌, arith}
use Rattle.std.proofs.lemmas.Option.{same_Some}
use Rattle.rdb_outside.specs.Disk.{IsPending}
use Rattle.rdb_outside.specs.Moments.{each_slot}
use Rattle.line_versions.specs.Versions.{snap_of}
use Rattle.line_store.specs.Calls.{Fails, GoesOn}
use Rattle.line_store.specs.Seats.{failed_at}
use Rattle.disk_store.specs.declared.member.Member.{Member}
use Rattle.disk_store.specs.declared.member.MemberStage.TheVariants as stage
use Rattle.disk_store.specs.Memory.{StoreMemory}
use Rattle.disk_store.specs.Seats.{stand_at}
use Rattle.disk_store.specs.Shown.{DoesOn}
use Rattle.change_steps.proofs.PushFaults.{does-push-fail}
use Rattle.change_steps.proofs.NextPushed.{does-next-pass, does-next-push, next-passed-less, next-pushed-less}
use Rattle.disk_store.specs.OwnFiles.{WritesOwn}
use Rattle.disk_store.proofs.OwnFiles.{own-none, own-version}
use Rattle.change_steps.proofs.pushing.push_key.Goals as goal

pub returns-in-Err-clause-comes : goal.returns-in-Err-clause-comes
returns-in-Err-clause-comes g c =
    let v = g.D.Disk.view c.args.disk.now in
    let w = g.D.Disk.view c.push_next.new.disk in
    let s = c.args.s.number in
    let held : StoreMemory = c.args.held.now in
    let off = c.in-Err.ensures.breaks in
    let at : off.member.stage ≡ stage.Changing = subst (λ (x : Member). x.stage ≡ stage.Changing) (same_Some c.requires.changes.member off.member (sym c.requires.changes.is ∙ off.was)) c.requires.changes.at in
    subst (λ (new : StoreMemory). DoesOn s (failed_at (stand_at held.members s)) (λ h k. Fails s c.in-Err.fault h k) v held w new) (sym off.is)
    (does-push-fail v w held s off.member off.was at c.args.key off.chain off.slots off.takes c.in-Err.fault
    (λ e. c.in-Err.ensures.failed (ap Err e)) (λ h shown file slot e. c.in-Err.ensures.bad file slot (ap Err e) h shown))

-- it was pushed aside, or has nothing to push
pub returns-clause-comes : goal.returns-clause-comes
returns-clause-comes g c =
    let v = g.D.Disk.view c.args.disk.now in
    let w = g.D.Disk.view c.push_next.new.disk in
    let s = c.args.s.number in
    let held : StoreMemory = c.args.held.now in
    let behind : StoreMemory = c.push_next.new.self in
    let now : IsTrue v.tells → IsPending v v.content = λ tells. each_slot v v.content (g.met.D.Disk.content_left c.args.disk.now v.moment tells (omega arith)) in
    elim c.in_default.ensures.pushed [
      | inl pushes ↦ does-next-push v w held behind s c.args.key c.requires.changes c.requires.next pushes c.sound.ensures now
      | inr passes ↦ subst (λ d. DoesOn s (stand_at held.members s) (λ h k. GoesOn s h k) v held (g.D.Disk.view d) behind) (sym passes.1) (does-next-pass v held behind s c.args.key c.requires.changes c.requires.next passes.0 c.sound.ensures now)
    ]

pub returns-clause-less : goal.returns-clause-less
returns-clause-less g c more =
    let v = g.D.Disk.view c.args.disk.now in
    let w = g.D.Disk.view c.push_next.new.disk in
    elim c.in_default.ensures.pushed [
      | inl pushes ↦ next-pushed-less v w c.args.held.now c.push_next.new.self c.args.s.number c.args.key c.requires.changes c.requires.next pushes
      | inr passes ↦ next-passed-less v c.args.held.now c.push_next.new.self c.args.s.number c.args.key c.requires.changes c.requires.next passes.0
    ]

pub returns-in-Err-clause-writes : goal.returns-in-Err-clause-writes
returns-in-Err-clause-writes g c = let off = c.in-Err.ensures.breaks in own-version (snap_of c.args.key) (off.chain - 1) (g.D.Disk.view c.args.disk.now) (g.D.Disk.view c.push_next.new.disk) off.takes.writes

pub returns-clause-writes : goal.returns-clause-writes
returns-clause-writes g c =
    let v = g.D.Disk.view c.args.disk.now in
    let w = g.D.Disk.view c.push_next.new.disk in
    elim c.in_default.ensures.pushed [
      | inl pushes ↦ own-version (snap_of c.args.key) (pushes.chain - 1) v w pushes.takes.writes
      | inr passes ↦ subst (λ d. WritesOwn v (g.D.Disk.view d)) (sym passes.1) (own-none v)
    ]
