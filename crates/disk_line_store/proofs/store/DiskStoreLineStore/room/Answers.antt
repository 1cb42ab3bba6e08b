use Rattle.disk_line_store.proofs.Calls.{if-err, if-ok, is-full, is-room}
use Rattle.disk_line_store.proofs.store.DiskStoreLineStore.room.Goals as goal

pub returns-clause-found : goal.returns-clause-found
returns-clause-found g c =
    let v = g.D.Disk.view c.args.self.now.disk in
    let held = c.args.self.now.held in
    let copies = c.args.self.now.copies in
    if-ok c.room.result _ _ (λ key found h shown. is-room v held copies c.args.s.number c.args.area c.args.from key h shown (found shown.plain shown.shown)) c.room.ensures.found

pub returns-clause-full : goal.returns-clause-full
returns-clause-full g c =
    let v = g.D.Disk.view c.args.self.now.disk in
    let held = c.args.self.now.held in
    let copies = c.args.self.now.copies in
    if-err c.room.result _ _ (λ full all h shown. is-full v held copies c.args.s.number c.args.area full.limit h shown (all shown.plain shown.shown)) c.room.ensures.full
