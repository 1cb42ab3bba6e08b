-- Why a statement's writes can't be laid.
use Rattle.std.proofs.Common.{◌≡◌, ◌<◌, ◌+◌, ℕ, List, Some, ◌⊎◌, inl, inr, sym, ap, subst, ◌∙◌, arith}
use Rattle.std.specs.Prelude.{slice_get}
use Rattle.rdb_types.specs.declared.keys.Limits.{Limits}
use Rattle.rdb_outside.specs.Disk.{View}
use Rattle.line_view.specs.declared.writes.Write.{Write}
use Rattle.line_store.specs.declared.answers.ChangeStop.{ChangeStop}
use Rattle.line_store.specs.declared.answers.ChangeStop.TheVariants as stop
use Rattle.line_store.specs.Seats.{IsWriting, writes_of, lines_added, lines_written}
use Rattle.line_store.specs.Shelves.{Shelf}
use Rattle.line_store.specs.Calls.{MayStopChange}
use Rattle.stable_lines.specs.Slots.{IsAreaFile}
use Rattle.reader_lines.specs.version_writing.Slots.{SlotTable, IsFullOf}
use Rattle.reader_lines.specs.version_writing.Tables.{table_of}
use Rattle.member_memory.specs.Memory.{writes_in}
use Rattle.disk_store.specs.declared.member.Member.{Member}
use Rattle.disk_store.specs.Memory.{StoreMemory}
use Rattle.disk_store.specs.Seats.{stand_of, stand_at}
use Rattle.disk_store.specs.Shown.{Sits, SitsAs, Shown, used_in}
use Rattle.disk_store.specs.Sound.{IsSound}
use Rattle.disk_store.specs.Changing.{StopsAt, LacksSlots, LacksEntries}
use Rattle.disk_store.proofs.Stages.{written-now}
use Rattle.disk_store.proofs.Written.{lines-counted}

-- a file that is full is so with what is in use of all files
full-of : (t : SlotTable) (wanted limit : ℕ) → IsFullOf t wanted limit → limit < used_in t + wanted
full-of t wanted limit full = omega (arith, full.limit_is, full.fewer)

module _ (v : View) (held : StoreMemory) (s : ℕ) (more : List Write) (sound : IsSound held) (writes : IsWriting (stand_at held.members s)) (h : Shelf) (shown : Shown v held h) where
  module _ (m : Member) (was : slice_get held.members s ≡ Some m) where
    sat : SitsAs v shown.ledger s m (h.seat s)
    sat = subst (λ x. Sits v shown.ledger s x (h.seat s)) was (shown.seats s)

    before : writes_of (h.seat s) ≡ writes_in m.written.lines
    before = ap writes_of sat.is ∙ written-now m (writes_in m.written.lines) sat.start (subst (λ x. IsWriting (stand_of x)) was writes)

    lacks-entries : (limit : ℕ) → LacksEntries m.written more held.limits.entries limit → MayStopChange h s more (stop.RujFull limit)
    lacks-entries limit lacks = (
      lacks.limit_is ∙ ap (λ (l : Limits). l.entries) (sym shown.space.limits),
      subst (λ (ws : List Write). limit < lines_written ws + lines_added ws more) (sym before) (let count = lines-counted m.written.lines m.written.keys (sound.each s m was).keys in omega (arith, count, lacks.more_lines, lacks.limit_is)),
    )

    long : (file : ℕ) → IsAreaFile file → (limit wanted : ℕ) → IsFullOf (table_of held.slots file) wanted limit → limit ≡ h.space.limits.snaps
    long file is limit wanted full = full.limit_is ∙ (shown.versions.slots file is).long ∙ ap (λ (l : Limits). l.snaps) (sym shown.space.limits)

    lacks-slots : (limit : ℕ) → LacksSlots m.written more held.slots limit → MayStopChange h s more (stop.SnapFull limit)
    lacks-slots limit lacks = by lacks.full
      where
        wants : limit < h.space.snaps + lines_added (writes_in m.written.lines) more → limit < h.space.snaps + lines_added (writes_of (h.seat s)) more
        wants less = subst (λ (ws : List Write). limit < h.space.snaps + lines_added ws more) (sym before) less

        by : IsFullOf held.slots.catalog lacks.wanted limit ⊎ (IsFullOf held.slots.relations lacks.wanted limit ⊎ IsFullOf held.slots.indexes lacks.wanted limit) → MayStopChange h s more (stop.SnapFull limit)
        by (inl full) = (long 1 (record { first = omega arith; last = omega arith }) limit lacks.wanted full, wants (let few = lacks.few in let less = full-of held.slots.catalog lacks.wanted limit full in let all = shown.space.snaps in omega (arith, few, less, all)))
        by (inr (inl full)) = (long 2 (record { first = omega arith; last = omega arith }) limit lacks.wanted full, wants (let few = lacks.few in let less = full-of held.slots.relations lacks.wanted limit full in let all = shown.space.snaps in omega (arith, few, less, all)))
        by (inr (inr full)) = (long 3 (record { first = omega arith; last = omega arith }) limit lacks.wanted full, wants (let few = lacks.few in let less = full-of held.slots.indexes lacks.wanted limit full in let all = shown.space.snaps in omega (arith, few, less, all)))

  pub may-stop : (why : ChangeStop) → StopsAt s more held why → MayStopChange h s more why
  may-stop (stop.RujFull limit) st = lacks-entries st.member st.was limit st.stops
  may-stop (stop.SnapFull limit) st = lacks-slots st.member st.was limit st.stops
  may-stop (stop.Unfit key) st = absurd st.stops
  may-stop stop.NoMemory st = tt
