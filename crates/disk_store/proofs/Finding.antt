-- Rooms that are found in memory, on each shelf that is shown.
use Rattle.std.proofs.Common.{◌≡◌, ℕ, true, List, [], Option, Some, refl, sym, ap, subst, ◌∙◌}
use Rattle.std.specs.Prelude.{slice_get}
use Rattle.std.specs.FinMap.Entries.{is_sorted}
use Rattle.rdb_types.specs.declared.keys.Dbkey.{Dbkey}
use Rattle.rdb_types.specs.declared.keys.Limits.{Limits}
use Rattle.rdb_types.specs.Order.{dbkey_order}
use Rattle.rdb_page.specs.Page.{IsOwner}
use Rattle.rdb_outside.specs.Disk.{View}
use Rattle.line_view.specs.declared.writes.Write.{Write}
use Rattle.line_view.specs.Knowledge.{Lines}
use Rattle.line_view.specs.Writes.{laid_all}
use Rattle.line_store.specs.Seats.{Seat, IsWriting}
use Rattle.line_store.specs.Shelves.{Shelf, seen_from, seen_by}
use Rattle.line_store.specs.Rooms.{IsRoom, IsFull}
use Rattle.member_rooms.specs.committed_tables.Tables.{HasCommitted}
use Rattle.member_memory.specs.Memory.{writes_in}
use Rattle.member_rooms.specs.Rooms.{IsRoomBeside, HasNoPage}
use Rattle.member_rooms.proofs.Seen.{room-is, full-is}
use Rattle.disk_store.specs.declared.member.Member.{Member}
use Rattle.disk_store.specs.declared.member.MemberStage.{MemberStage}
use Rattle.disk_store.specs.declared.member.MemberStage.TheVariants as stage
use Rattle.disk_store.specs.Memory.{StoreMemory}
use Rattle.disk_store.specs.Seats.{seat_with}
use Rattle.disk_store.specs.Shown.{Sits, SitsAs, pages_of, Shown}
use Rattle.disk_store.proofs.Tabled.{file-of}

sees-written : (at : MemberStage) (ws : List Write) (start now : Lines) → IsWriting (seat_with at [] []) → seen_from (seat_with at ws start) now ≡ laid_all ws now
sees-written stage.Writing ws start now is = refl
sees-written _ ws start now is = absurd is

module _ (v : View) (held : StoreMemory) (s : ℕ) (m : Member) (was : slice_get held.members s ≡ Some m) (writes : IsWriting (seat_with m.stage [] [])) (file area : ℕ) (owner : IsOwner file area) (sorted : is_sorted dbkey_order m.written.lines ≡ true) where
  sees : (h : Shelf) → Shown v held h → seen_by s h ≡ laid_all (writes_in m.written.lines) h.now
  sees h shown =
      let sat : SitsAs v shown.ledger s m (h.seat s) = subst (λ x. Sits v shown.ledger s x (h.seat s)) was (shown.seats s) in
      ap (λ (x : Seat). seen_from x h.now) sat.is ∙ sees-written m.stage (writes_in m.written.lines) sat.start h.now writes

  pub room-shown : (class : ℕ) (from : Option Dbkey) (key : Dbkey) → IsRoomBeside (pages_of held.tables file) m.written.lines area class from key → (h : Shelf) → Shown v held h → IsRoom h s area from key
  room-shown class from key room h shown =
      let committed : HasCommitted (pages_of held.tables file) file h.now = subst (λ (ls : Lines). HasCommitted (pages_of held.tables file) file ls) (sym shown.lines.now) (shown.tables.committed file (file-of file area owner)) in
      room-is (pages_of held.tables) h m.written.lines s file area shown.space.pages owner sorted (sees h shown) class from key committed room

  pub full-shown : HasNoPage (pages_of held.tables file) m.written.lines area → (h : Shelf) → Shown v held h → IsFull h s area held.limits.pages
  full-shown none h shown =
      subst (λ (l : Limits). IsFull h s area l.pages) shown.space.limits (full-is (pages_of held.tables) h m.written.lines s file area shown.space.pages owner sorted (sees h shown) none)
