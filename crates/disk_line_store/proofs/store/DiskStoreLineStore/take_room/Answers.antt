use Rattle.std.proofs.Common.{IsTrue, arith}
use Rattle.rdb_outside.specs.Disk.{LeftNow}
use Rattle.store_copies.proofs.Plain.{does-take, stays-any}
use Rattle.disk_line_store.proofs.store.DiskStoreLineStore.take_room.Goals as goal

pub returns-clause-taken : goal.returns-clause-taken
returns-clause-taken g c is =
    let v = g.D.Disk.view c.args.self.now.disk in
    let reads : IsTrue v.tells → LeftNow v v.content = λ tells. g.met.D.Disk.content_left c.args.self.now.disk v.moment tells (omega arith) in
    does-take v c.args.self.now.held c.take_room.new.held c.args.self.now.copies c.args.s.number c.args.key reads c.take_room.ensures.grows (c.take_room.ensures.taken is)

pub returns-clause-refused : goal.returns-clause-refused
returns-clause-refused g c other =
    let v = g.D.Disk.view c.args.self.now.disk in
    let reads : IsTrue v.tells → LeftNow v v.content = λ tells. g.met.D.Disk.content_left c.args.self.now.disk v.moment tells (omega arith) in
    stays-any v c.args.self.now.held c.take_room.new.held c.args.self.now.copies c.args.s.number reads c.take_room.ensures.grows (c.take_room.ensures.refused other)
