use Rattle.std.proofs.Common.{◌≡◌, [], sym, subst}
use Rattle.line_store.specs.Seats.{changing, IsWriting}
use Rattle.line_store.specs.Calls.{Changes}
use Rattle.disk_store.specs.declared.member.MemberStage.TheVariants as stage
use Rattle.disk_store.specs.Memory.{StoreMemory}
use Rattle.disk_store.specs.Seats.{stand_of}
use Rattle.disk_store.specs.Shown.{DoesOn, StaysOn}
use Rattle.disk_store.proofs.Stages.{is-writing}
use Rattle.disk_store.proofs.Taking.{stays}
use Rattle.disk_store.proofs.Changed.{does-change}
use Rattle.disk_store.proofs.Stopping.{may-stop}
use Rattle.disk_store.proofs.changing.change.Goals as goal

pub returns-in-Some-clause-err : goal.returns-in-Some-clause-err
returns-in-Some-clause-err g c = stays (g.D.Disk.view c.args._disk.now) c.args.held.now c.args.s.number

pub returns-in-Err-clause-err : goal.returns-in-Err-clause-err
returns-in-Err-clause-err g c =
    let v = g.D.Disk.view c.args._disk.now in
    subst (λ (new : StoreMemory). StaysOn c.args.s.number v c.args.held.now v new) (sym c.in-Err.ensures.stays) (stays v c.args.held.now c.args.s.number)

pub returns-in-Err-clause-cause : goal.returns-in-Err-clause-cause
returns-in-Err-clause-cause g c h shown =
    may-stop (g.D.Disk.view c.args._disk.now) c.args.held.now c.args.s.number c.args.writes.now c.sound.ensures c.requires.seat h shown _ c.in-Err.ensures.cause

pub returns-clause-ok : goal.returns-clause-ok
returns-clause-ok g c =
    let v = g.D.Disk.view c.args._disk.now in
    let s = c.args.s.number in
    let held : StoreMemory = c.args.held.now in
    let laid = c.in_default-lay_writes.ensures.laid in
    let at : laid.member.stage ≡ stage.Writing = is-writing laid.member.stage (subst (λ x. IsWriting (stand_of x)) laid.was c.requires.seat) in
    subst (λ (new : StoreMemory). DoesOn s (changing []) (Changes s c.args.writes.now) v held v new) (sym laid.is)
    (does-change v held s laid.member c.args.writes.now laid.written laid.wanted laid.was c.sound.ensures at laid.lays laid.count)
