use Rattle.std.proofs.Common.{refl, IsTrue, arith}
use Rattle.rdb_outside.specs.Disk.{LeftNow}
use Rattle.line_store.specs.Seats.{outside}
use Rattle.line_store.specs.Calls.{Moves}
use Rattle.change_steps.specs.disk_store.Shown.{sight_of}
use Rattle.change_steps.proofs.of_disk_store.Growing.{grow-same}
use Rattle.store_copies.proofs.Plain.{leaves-none}
use Rattle.store_copies.proofs.Sighted.{none-reading}
use Rattle.disk_line_store.proofs.Calls.{Beside, beside-of, moved, readers-beside}
use Rattle.disk_line_store.proofs.store.DiskStoreLineStore.end_reading.Goals as goal

pub invariant_of-self : goal.invariant_of-self
invariant_of-self g c =
    let v = g.D.Disk.view c.args.self.now.disk in
    let s = c.args.s.number in
    let held = c.args.self.now.held in
    let copies = c.args.self.now.copies in
    let none = none-reading v held copies c.args.self.now.readers s c.requires.reader in
    let behind = c.end_reading.new.held in
    let beside : Beside s (sight_of v held) (sight_of v behind) = beside-of s outside (λ h g. Moves s (outside) h g) v v held behind c.end_reading.ensures.comes in
    record {
      few = c.steps_are_few.ensures.all held.members beside.steps c.args.self.now.few;
      readers = readers-beside v v held behind copies s none beside c.args.self.now.readers;
    }

pub returns : goal.returns
returns g c =
    let v = g.D.Disk.view c.args.self.now.disk in
    let reads : IsTrue v.tells → LeftNow v v.content = λ tells. g.met.D.Disk.content_left c.args.self.now.disk v.moment tells (omega arith) in
    let s = c.args.s.number in
    let held = c.args.self.now.held in
    let copies = c.args.self.now.copies in
    let none = none-reading v held copies c.args.self.now.readers s c.requires.reader in
    let behind = c.end_reading.new.held in
    record { does = moved v v held behind copies s none (leaves-none v reads) (grow-same held.tables behind.tables c.end_reading.ensures.tables) outside (λ h. outside) refl (λ h. refl) c.end_reading.ensures.comes }
