use Rattle.std.proofs.Common.{[], refl, ap, IsTrue, arith}
use Rattle.rdb_outside.specs.Disk.{LeftNow}
use Rattle.line_store.specs.Seats.{rolling_back, rolled_back}
use Rattle.line_store.specs.Calls.{Moves}
use Rattle.change_steps.specs.disk_store.Shown.{sight_of}
use Rattle.change_steps.proofs.of_disk_store.Growing.{grow-same}
use Rattle.store_copies.specs.Memory.{copied_by}
use Rattle.store_copies.proofs.Plain.{leaves-none}
use Rattle.store_copies.proofs.Seated.{seat-with}
use Rattle.store_copies.proofs.Sighted.{none-writing}
use Rattle.disk_line_store.proofs.Calls.{Beside, beside-of, moved, readers-beside}
use Rattle.disk_line_store.proofs.store.DiskStoreLineStore.roll_back.Goals as goal

pub invariant_of-self : goal.invariant_of-self
invariant_of-self g c =
    let v = g.D.Disk.view c.args.self.now.disk in
    let s = c.args.s.number in
    let held = c.args.self.now.held in
    let copies = c.args.self.now.copies in
    let none = none-writing v held copies c.args.self.now.readers s c.requires.seat in
    let behind = c.roll_back.new.held in
    let beside : Beside s (sight_of v held) (sight_of v behind) = beside-of s (rolling_back []) (λ h g. Moves s (rolled_back (h.seat s)) h g) v v held behind c.roll_back.ensures.does in
    record {
      few = c.steps_are_few.ensures.all held.members beside.steps c.args.self.now.few;
      readers = readers-beside v v held behind copies s none beside c.args.self.now.readers;
    }

pub returns : goal.returns
returns g c =
    let v = g.D.Disk.view c.args.self.now.disk in
    let reads : IsTrue v.tells → LeftNow v v.content = λ tells. g.met.D.Disk.content_left c.args.self.now.disk v.moment tells (omega arith) in
    let s = c.args.s.number in
    let held = c.args.self.now.held in
    let copies = c.args.self.now.copies in
    let none = none-writing v held copies c.args.self.now.readers s c.requires.seat in
    let behind = c.roll_back.new.held in
    record { does = moved v v held behind copies s none (leaves-none v reads) (grow-same held.tables behind.tables c.roll_back.ensures.tables) (rolling_back []) (λ h. rolled_back (h.seat s)) refl (λ h. ap rolled_back (seat-with (copied_by copies) h s none)) c.roll_back.ensures.does }
