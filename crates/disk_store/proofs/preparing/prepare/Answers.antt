use Rattle.std.proofs.Common.{[], refl, sym, ap, subst}
use Rattle.line_store.specs.Seats.{IsWriting, prepared}
use Rattle.line_store.specs.Calls.{MayStopCommit}
use Rattle.line_store.specs.declared.answers.CommitStop.TheVariants.{AijFull}
use Rattle.line_store.specs.Sights.{Prepares}
use Rattle.disk_store.specs.declared.member.Member.{Member}
use Rattle.disk_store.specs.Memory.{StoreMemory}
use Rattle.disk_store.specs.Seats.{seat_with, stand_of}
use Rattle.disk_store.specs.Shown.{DoesOn}
use Rattle.disk_store.proofs.Ready.{does-ready}
use Rattle.disk_store.proofs.JournalRoom.{no-room}
use Rattle.disk_store.proofs.Taking.{stays}
use Rattle.disk_store.proofs.preparing.prepare.Goals as goal

pub set_prepared-requires-clause-room : goal.set_prepared-requires-clause-room
set_prepared-requires-clause-room g c m is = c.if-has_room.ensures.fits refl m is

pub returns-then-has_room-clause-ok : goal.returns-then-has_room-clause-ok
returns-then-has_room-clause-ok g c =
    let v = g.D.Disk.view c.args._disk.now in
    let s = c.args.s.number in
    let comes = c.set_prepared.ensures.comes in
    let m : Member = comes.0 in
    let is : IsWriting (seat_with m.stage [] []) = subst (λ x. IsWriting (stand_of x)) comes.1 c.requires.writing in
    subst (λ held. DoesOn s (prepared []) (Prepares s) v c.args.held.now v held) (sym comes.4) (does-ready v c.args.held.now s m comes.2 comes.1 is _ comes.3)

pub returns-in_default-clause-err : goal.returns-in_default-clause-err
returns-in_default-clause-err g c = stays (g.D.Disk.view c.args._disk.now) c.args.held.now c.args.s.number

pub returns-clause-err : goal.returns-clause-err
returns-clause-err g c = stays (g.D.Disk.view c.args._disk.now) c.args.held.now c.args.s.number

pub returns-clause-cause : goal.returns-clause-cause
returns-clause-cause g c h shown = subst (λ n. MayStopCommit h c.args.s.number (AijFull n)) (sym (ap (λ (x : StoreMemory). x.limits.slots) c.held.view_is)) (no-room (g.D.Disk.view c.args._disk.now) c.args.held.now h c.args.s.number shown c.requires.writing (λ m is. c.if-has_room.ensures.full refl m is))
