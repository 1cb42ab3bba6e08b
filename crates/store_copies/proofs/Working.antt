-- A session that copies, and what a step of its copy needs.
use Rattle.std.proofs.Common.{◌≡◌, ◌≤◌, ◌^◌, ℕ, Option, Some, ap, subst, ◌∙◌, arith}
use Rattle.std.specs.Prelude.{slice_get}
use Rattle.rdb_outside.specs.Disk.{View, LeftNow}
use Rattle.line_view.specs.Knowledge.{Lines}
use Rattle.line_versions.specs.Versions.{Start}
use Rattle.line_store.specs.Seats.{Seat, reading}
use Rattle.line_store.specs.Shelves.{Shelf, seen_from}
use Rattle.backup_steps.specs.Copies.{MayBeCopied}
use Rattle.copies_beside.specs.Read.{IsReadBy}
use Rattle.copies_beside.proofs.Readers.{is_read}
use Rattle.member_memory.specs.Memory.{writes_in}
use Rattle.disk_store.specs.declared.member.Member.{Member}
use Rattle.disk_store.specs.declared.member.MemberStage.{MemberStage}
use Rattle.disk_store.specs.declared.member.MemberStage.TheVariants as stage
use Rattle.disk_store.specs.declared.held.Tables.{Tables}
use Rattle.disk_store.specs.Memory.{StoreMemory}
use Rattle.disk_store.specs.Seats.{seat_with}
use Rattle.disk_store.specs.Shown.{Sits, SitsAs, IsReading, Shown}
use Rattle.disk_store.specs.Sound.{IsSound}
use Rattle.store_copies.specs.Shown.{IsFit}

-- the seat of a session that reads
pub record ReadsFrom (h : Shelf) (s : ℕ) : Type 0 where
  pub start : Lines
  pub seat : h.seat s ≡ reading start

module _ (v : View) (held : StoreMemory) (h : Shelf) (shown : Shown v held h) (s : ℕ) (m : Member) (was : slice_get held.members s ≡ Some m) (reads : m.stage ≡ stage.Reading) where
  sat : SitsAs v shown.ledger s m (h.seat s)
  sat = subst (λ (x : Option Member). Sits v shown.ledger s x (h.seat s)) was (shown.seats s)

  pub reads-from : ReadsFrom h s
  reads-from = record { start = sat.start; seat = sat.is ∙ ap (λ (st : MemberStage). seat_with st (writes_in m.written.lines) sat.start) reads }

  module _ (start : Lines) (seat : h.seat s ≡ reading start) where
    goes : IsReading shown.versions.course s m start
    goes = shown.versions.reading s m start was reads seat

    -- its number is one that was drawn
    pub begun-below : (sound : IsSound held) → m.reader.next ≤ 2 ^ 62
    begun-below sound =
        let began = (shown.versions.readers.versions.right.readers s goes.reading goes.goes).began in
        let next = shown.versions.readers.versions.next in
        let number = shown.numbers.number in
        let below = shown.numbers.ceiling.below in
        let last = sound.last in
        let its = ap (λ (x : Start). x.next) goes.kept in
        omega (arith, began, next, number, below, last, its)

    pub may-be-copied : (sound : IsSound held) (tables : Tables) (limits : _) (classes : ℕ → ℕ) → IsFit tables limits classes start → MayBeCopied classes start m.reader
    may-be-copied sound tables limits classes fit = record { class = fit.class; image = fit.image; number = begun-below sound; few = fit.few }

    pub is-read-from : LeftNow v v.content → IsReadBy v shown.ledger held m start
    is-read-from left = subst (λ (lines : Lines). IsReadBy v shown.ledger held m lines) (ap (λ (x : Seat). seen_from x h.now) seat) (is_read v left held h shown s m was reads)
