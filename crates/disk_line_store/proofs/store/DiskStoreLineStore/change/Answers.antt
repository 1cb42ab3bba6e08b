use Rattle.line_store.specs.Calls.{Changes}
use Rattle.std.proofs.Common.{◌≡◌, [], refl, IsTrue, arith}
use Rattle.rdb_outside.specs.Disk.{LeftNow}
use Rattle.line_store.specs.Seats.{changing}
use Rattle.change_steps.specs.disk_store.Seats.{stand_at}
use Rattle.change_steps.specs.disk_store.Shown.{sight_of}
use Rattle.change_steps.proofs.of_disk_store.Growing.{grow-same}
use Rattle.store_copies.proofs.Plain.{leaves-none, stays-any}
use Rattle.store_copies.proofs.Sighted.{none-writing}
use Rattle.disk_line_store.proofs.Calls.{Beside, beside-either, changed, if-err, may-stop-change, on-err, on-ok, readers-beside}
use Rattle.disk_line_store.proofs.store.DiskStoreLineStore.change.Goals as goal

pub invariant_of-self : goal.invariant_of-self
invariant_of-self g c =
    let v = g.D.Disk.view c.args.self.now.disk in
    let s = c.args.s.number in
    let held = c.args.self.now.held in
    let copies = c.args.self.now.copies in
    let none = none-writing v held copies c.args.self.now.readers s c.requires.seat in
    let behind = c.change-changed.new.held in
    let beside : Beside s (sight_of v held) (sight_of v behind) = beside-either c.change-changed.result s (changing []) (stand_at held.members s) (λ h g. Changes s c.args.writes.now h g) (λ h g. g ≡ h) v v held behind c.change-changed.ensures.ok c.change-changed.ensures.err in
    record {
      few = c.steps_are_few.ensures.all held.members beside.steps c.args.self.now.few;
      readers = readers-beside v v held behind copies s none beside c.args.self.now.readers;
    }

pub returns-clause-ok : goal.returns-clause-ok
returns-clause-ok g c =
    let v = g.D.Disk.view c.args.self.now.disk in
    let reads : IsTrue v.tells → LeftNow v v.content = λ tells. g.met.D.Disk.content_left c.args.self.now.disk v.moment tells (omega arith) in
    let s = c.args.s.number in
    let held = c.args.self.now.held in
    let copies = c.args.self.now.copies in
    let none = none-writing v held copies c.args.self.now.readers s c.requires.seat in
    let behind = c.change-changed.new.held in
    on-ok c.change-changed.result (λ does. changed v v held behind copies s none (leaves-none v reads) (grow-same held.tables behind.tables c.change-changed.ensures.tables) (changing []) c.args.writes.now refl does) c.change-changed.ensures.ok

pub returns-clause-err : goal.returns-clause-err
returns-clause-err g c =
    let v = g.D.Disk.view c.args.self.now.disk in
    let reads : IsTrue v.tells → LeftNow v v.content = λ tells. g.met.D.Disk.content_left c.args.self.now.disk v.moment tells (omega arith) in
    let s = c.args.s.number in
    let held = c.args.self.now.held in
    let behind = c.change-changed.new.held in
    on-err c.change-changed.result (λ stays. stays-any v held behind c.args.self.now.copies s reads (grow-same held.tables behind.tables c.change-changed.ensures.tables) stays) c.change-changed.ensures.err

pub returns-clause-cause : goal.returns-clause-cause
returns-clause-cause g c =
    let v = g.D.Disk.view c.args.self.now.disk in
    let s = c.args.s.number in
    let held = c.args.self.now.held in
    let copies = c.args.self.now.copies in
    let none = none-writing v held copies c.args.self.now.readers s c.requires.seat in
    if-err c.change-changed.result _ _ (λ stop may h shown. may-stop-change v held copies s none c.args.writes.now stop may h shown) c.change-changed.ensures.cause
