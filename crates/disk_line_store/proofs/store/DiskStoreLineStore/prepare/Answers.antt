use Rattle.std.proofs.Common.{◌≡◌, [], refl, ap, IsTrue, arith}
use Rattle.rdb_outside.specs.Disk.{LeftNow}
use Rattle.line_store.specs.Seats.{prepared, prepared_by}
use Rattle.line_store.specs.Calls.{Moves}
use Rattle.change_steps.specs.disk_store.Seats.{stand_at}
use Rattle.change_steps.specs.disk_store.Shown.{sight_of}
use Rattle.change_steps.proofs.of_disk_store.Growing.{grow-same}
use Rattle.store_copies.specs.Memory.{copied_by}
use Rattle.store_copies.proofs.Plain.{leaves-none, stays-any}
use Rattle.store_copies.proofs.Seated.{seat-with}
use Rattle.store_copies.proofs.Sighted.{none-writing}
use Rattle.disk_line_store.proofs.Calls.{Beside, beside-either, if-err, may-stop-commit, moved, on-err, on-ok, readers-beside}
use Rattle.disk_line_store.proofs.store.DiskStoreLineStore.prepare.Goals as goal

pub invariant_of-self : goal.invariant_of-self
invariant_of-self g c =
    let v = g.D.Disk.view c.args.self.now.disk in
    let s = c.args.s.number in
    let held = c.args.self.now.held in
    let copies = c.args.self.now.copies in
    let none = none-writing v held copies c.args.self.now.readers s c.requires.writing in
    let behind = c.prepare-prepared.new.held in
    let beside : Beside s (sight_of v held) (sight_of v behind) = beside-either c.prepare-prepared.result s (prepared []) (stand_at held.members s) (λ h g. Moves s (prepared_by (h.seat s)) h g) (λ h g. g ≡ h) v v held behind c.prepare-prepared.ensures.ok c.prepare-prepared.ensures.err in
    record {
      few = c.steps_are_few.ensures.all held.members beside.steps c.args.self.now.few;
      readers = readers-beside v v held behind copies s none beside c.args.self.now.readers;
    }

pub returns-clause-ok : goal.returns-clause-ok
returns-clause-ok g c =
    let v = g.D.Disk.view c.args.self.now.disk in
    let reads : IsTrue v.tells → LeftNow v v.content = λ tells. g.met.D.Disk.content_left c.args.self.now.disk v.moment tells (omega arith) in
    let s = c.args.s.number in
    let held = c.args.self.now.held in
    let copies = c.args.self.now.copies in
    let none = none-writing v held copies c.args.self.now.readers s c.requires.writing in
    let behind = c.prepare-prepared.new.held in
    on-ok c.prepare-prepared.result (λ does. moved v v held behind copies s none (leaves-none v reads) (grow-same held.tables behind.tables c.prepare-prepared.ensures.tables) (prepared []) (λ h. prepared_by (h.seat s)) refl (λ h. ap prepared_by (seat-with (copied_by copies) h s none)) does) c.prepare-prepared.ensures.ok

pub returns-clause-err : goal.returns-clause-err
returns-clause-err g c =
    let v = g.D.Disk.view c.args.self.now.disk in
    let reads : IsTrue v.tells → LeftNow v v.content = λ tells. g.met.D.Disk.content_left c.args.self.now.disk v.moment tells (omega arith) in
    let s = c.args.s.number in
    let held = c.args.self.now.held in
    let behind = c.prepare-prepared.new.held in
    on-err c.prepare-prepared.result (λ stays. stays-any v held behind c.args.self.now.copies s reads (grow-same held.tables behind.tables c.prepare-prepared.ensures.tables) stays) c.prepare-prepared.ensures.err

pub returns-clause-cause : goal.returns-clause-cause
returns-clause-cause g c =
    let v = g.D.Disk.view c.args.self.now.disk in
    let s = c.args.s.number in
    let held = c.args.self.now.held in
    let copies = c.args.self.now.copies in
    let none = none-writing v held copies c.args.self.now.readers s c.requires.writing in
    if-err c.prepare-prepared.result _ _ (λ stop may h shown. may-stop-commit v held copies s none stop may h shown) c.prepare-prepared.ensures.cause
