use Rattle.std.proofs.Common.{◌≡◌, true, [], sym, subst}
use Rattle.std.specs.FinMap.Entries.{is_sorted}
use Rattle.rdb_types.specs.Order.{dbkey_order}
use Rattle.line_store.specs.Seats.{IsWriting}
use Rattle.line_store.specs.Rooms.{IsFull}
use Rattle.member_rooms.specs.page_table.Pages.{Pages}
use Rattle.member_memory.specs.Memory.{Memory}
use Rattle.member_rooms.specs.Rooms.{IsRoomBeside, HasNoPage}
use Rattle.disk_store.specs.declared.member.Member.{Member}
use Rattle.disk_store.specs.Memory.{StoreMemory}
use Rattle.disk_store.specs.Seats.{seat_with, stand_of}
use Rattle.disk_store.specs.Shown.{pages_of}
use Rattle.disk_store.proofs.Finding.{room-shown, full-shown}
use Rattle.disk_store.proofs.rooms.room.Goals as goal

pub unreachable-requires : goal.unreachable-requires
unreachable-requires g c = c.in_default.ensures.none c.requires.area.0 c.requires.area.1

pub returns-in-Some-next_room-clause-found : goal.returns-in-Some-next_room-clause-found
returns-in-Some-next_room-clause-found g c =
    let v = g.D.Disk.view c.args._disk.now in
    let held = c.args.held.now in
    let s = c.args.s.number in
    let m : Member = c.written-own.ensures.0 in
    let writes : IsWriting (seat_with m.stage [] []) = subst (λ x. IsWriting (stand_of x)) c.written-own.ensures.1 c.requires.writing in
    let sorted : is_sorted dbkey_order m.written.lines ≡ true = subst (λ (own : Memory). is_sorted dbkey_order own.lines ≡ true) c.written-own.ensures.2 c.lines-lines.ensures.ordered in
    let room = subst (λ (p : Pages). IsRoomBeside p c.written-own.result.now.lines c.args.area c.args.class c.args.from c.in-Some-next_room.key) c.table.ensures c.in-Some-next_room.ensures.room in
    let beside : IsRoomBeside (pages_of held.tables c.in-Some.file) m.written.lines c.args.area c.args.class c.args.from c.in-Some-next_room.key = subst (λ (own : Memory). IsRoomBeside (pages_of held.tables c.in-Some.file) own.lines c.args.area c.args.class c.args.from c.in-Some-next_room.key) c.written-own.ensures.2 room in
    room-shown v held s m c.written-own.ensures.1 writes c.in-Some.file c.args.area c.in-Some.ensures.found sorted c.args.class c.args.from c.in-Some-next_room.key beside

pub returns-in-None-clause-full : goal.returns-in-None-clause-full
returns-in-None-clause-full g c h shown =
    let v = g.D.Disk.view c.args._disk.now in
    let held = c.args.held.now in
    let s = c.args.s.number in
    let m : Member = c.written-own.ensures.0 in
    let writes : IsWriting (seat_with m.stage [] []) = subst (λ x. IsWriting (stand_of x)) c.written-own.ensures.1 c.requires.writing in
    let sorted : is_sorted dbkey_order m.written.lines ≡ true = subst (λ (own : Memory). is_sorted dbkey_order own.lines ≡ true) c.written-own.ensures.2 c.lines-lines.ensures.ordered in
    let none = subst (λ (p : Pages). HasNoPage p c.written-own.result.now.lines c.args.area) c.table.ensures c.in-None.ensures.full in
    let beside : HasNoPage (pages_of held.tables c.in-Some.file) m.written.lines c.args.area = subst (λ (own : Memory). HasNoPage (pages_of held.tables c.in-Some.file) own.lines c.args.area) c.written-own.ensures.2 none in
    subst (λ (k : StoreMemory). IsFull h s c.args.area k.limits.pages) (sym c.held.view_is)
    (full-shown v held s m c.written-own.ensures.1 writes c.in-Some.file c.args.area c.in-Some.ensures.found sorted beside h shown)
