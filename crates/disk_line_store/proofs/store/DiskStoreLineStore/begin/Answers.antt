use Rattle.std.proofs.Common.{refl, IsTrue, arith}
use Rattle.rdb_outside.specs.Disk.{LeftNow}
use Rattle.line_store.specs.Seats.{beginning}
use Rattle.line_store.specs.Calls.{Moves}
use Rattle.change_steps.specs.disk_store.Shown.{sight_of}
use Rattle.change_steps.proofs.of_disk_store.Growing.{grow-same}
use Rattle.store_copies.proofs.Plain.{leaves-none}
use Rattle.store_copies.proofs.Sighted.{none-outside}
use Rattle.disk_line_store.proofs.Calls.{Beside, beside-of, moved, readers-beside}
use Rattle.disk_line_store.proofs.store.DiskStoreLineStore.begin.Goals as goal

pub invariant_of-self : goal.invariant_of-self
invariant_of-self g c =
    let v = g.D.Disk.view c.args.self.now.disk in
    let s = c.args.s.number in
    let held = c.args.self.now.held in
    let copies = c.args.self.now.copies in
    let none = none-outside v held copies c.args.self.now.readers s c.requires.outside in
    let behind = c.begin.new.held in
    let beside : Beside s (sight_of v held) (sight_of v behind) = beside-of s beginning (λ h g. Moves s (beginning) h g) v v held behind c.begin.ensures.does in
    record {
      few = c.steps_are_few.ensures.all held.members beside.steps c.args.self.now.few;
      readers = readers-beside v v held behind copies s none beside c.args.self.now.readers;
    }

pub returns : goal.returns
returns g c =
    let v = g.D.Disk.view c.args.self.now.disk in
    let reads : IsTrue v.tells → LeftNow v v.content = λ tells. g.met.D.Disk.content_left c.args.self.now.disk v.moment tells (omega arith) in
    let s = c.args.s.number in
    let held = c.args.self.now.held in
    let copies = c.args.self.now.copies in
    let none = none-outside v held copies c.args.self.now.readers s c.requires.outside in
    let behind = c.begin.new.held in
    record { does = moved v v held behind copies s none (leaves-none v reads) (grow-same held.tables behind.tables c.begin.ensures.tables) beginning (λ h. beginning) refl (λ h. refl) c.begin.ensures.does }
