use Rattle.line_store.specs.Calls.{IsRead}
use Rattle.std.proofs.Common.{refl, sym, subst, IsTrue, arith}
use Rattle.rdb_outside.specs.Disk.{LeftNow}
use Rattle.line_view.specs.Knowledge.{Lines, IsInOrder, Agrees as AgreesWith}
use Rattle.line_view.specs.Held.{knows}
use Rattle.line_store.specs.Seats.{Seat, copied_at}
use Rattle.line_store.specs.Sights.{Does}
use Rattle.line_store.proofs.Begun.{begun-same}
use Rattle.change_steps.specs.disk_store.Seats.{stand_at}
use Rattle.change_steps.proofs.of_disk_store.Growing.{grow-same}
use Rattle.store_copies.specs.Shown.{copied_sight}
use Rattle.store_copies.proofs.Plain.{leaves-reads}
use Rattle.store_copies.proofs.Sighted.{none-resting, stands-plain}
use Rattle.disk_line_store.proofs.Calls.{learns-line, looked, seen-same}
use Rattle.disk_line_store.proofs.store.DiskStoreLineStore.learn_line.Goals as goal

pub returns-clause-done : goal.returns-clause-done
returns-clause-done g c done =
    let v = g.D.Disk.view c.args.self.now.disk in
    let s = c.args.s.number in
    let held = c.args.self.now.held in
    let copies = c.args.self.now.copies in
    learns-line v held copies s c.args.key c.args.known.now c.learn_line.new.known (c.learn_line.ensures.done done)

pub returns-clause-knows : goal.returns-clause-knows
returns-clause-knows g c h shown =
    let v = g.D.Disk.view c.args.self.now.disk in
    let s = c.args.s.number in
    let held = c.args.self.now.held in
    let copies = c.args.self.now.copies in
    subst (λ (lines : Lines). IsInOrder lines → AgreesWith (knows c.args.known.now) lines → AgreesWith (knows c.learn_line.new.known) lines) (sym (seen-same v held copies s h shown)) (c.learn_line.ensures.knows shown.plain shown.shown)

pub returns-clause-read : goal.returns-clause-read
returns-clause-read g c =
    let former = g.O.FormerDisk.former in
    let v = g.D.Disk.view c.args.self.now.disk in
    let reads : IsTrue v.tells → LeftNow v v.content = λ tells. g.met.D.Disk.content_left c.args.self.now.disk v.moment tells (omega arith) in
    let s = c.args.s.number in
    let held = c.args.self.now.held in
    let copies = c.args.self.now.copies in
    let none = none-resting v held copies c.args.self.now.readers s c.requires.seat in
    let w = g.D.Disk.view c.learn_line.new.disk in
    let there = stand_at held.members s in
    subst (λ (seat : Seat). Does s seat (λ h k. IsRead s h k c.learn_line.result) (copied_sight former v held copies) (copied_sight former w held copies)) (sym (stands-plain v held copies c.args.self.now.readers s none))
    (looked v w held held copies s none (leaves-reads v w reads c.learn_line.ensures.only_reads) (grow-same held.tables held.tables refl) there c.learn_line.result (begun-same (copied_at there)) c.learn_line.ensures.read)
