use Rattle.std.proofs.Common.{IsTrue, arith}
use Rattle.rdb_outside.specs.Disk.{LeftNow}
use Rattle.change_steps.proofs.of_disk_store.Growing.{grow-same}
use Rattle.store_copies.proofs.Plain.{does-die, readers-left}
use Rattle.disk_line_store.proofs.store.DiskStoreLineStore.die.Goals as goal

pub invariant_of-self : goal.invariant_of-self
invariant_of-self g c =
    let v = g.D.Disk.view c.args.self.now.disk in
    let reads : IsTrue v.tells → LeftNow v v.content = λ tells. g.met.D.Disk.content_left c.args.self.now.disk v.moment tells (omega arith) in
    let s = c.args.s.number in
    let held = c.args.self.now.held in
    let behind = c.die.new.held in
    record {
      few = c.steps_are_few.ensures.all held.members c.die.ensures.does.does.steps c.args.self.now.few;
      readers = readers-left v held behind c.args.self.now.copies c.leave.new.self s c.leave.ensures.copied c.leave.ensures.numbers c.leave.ensures.done reads (grow-same held.tables behind.tables c.die.ensures.tables) c.die.ensures.does c.args.self.now.readers;
    }

pub returns : goal.returns
returns g c =
    let v = g.D.Disk.view c.args.self.now.disk in
    let reads : IsTrue v.tells → LeftNow v v.content = λ tells. g.met.D.Disk.content_left c.args.self.now.disk v.moment tells (omega arith) in
    let s = c.args.s.number in
    let held = c.args.self.now.held in
    let behind = c.die.new.held in
    record { does = does-die v held behind c.args.self.now.copies c.leave.new.self s c.leave.ensures.copied c.leave.ensures.numbers c.leave.ensures.done reads (grow-same held.tables behind.tables c.die.ensures.tables) c.die.ensures.does }
