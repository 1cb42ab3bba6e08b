-- Snapshot files whose slots are all free.
use Rattle.std.proofs.Common.{◌≡◌, ◌≤◌, ◌+◌, ℕ, zero, suc, Bool, true, cond, List, [], ◌∷◌, length, refl, ap, ◌∙◌, arith}
use Rattle.snapshot_file.specs.Slots.{is_free, left_in}
use Rattle.version_writing.specs.Slots.{SlotTable, AreFree}
use Rattle.version_writing.specs.Tables.{HoldsAll}
use Rattle.line_versions.specs.Versions.{Followed}
use Rattle.rdb_outside.specs.Disk.{Image}
use Rattle.disk_store.specs.Memory.{StoreMemory}
use Rattle.disk_store.specs.Opening.{HasAllFree}
use Rattle.disk_store.specs.Shown.{used_in}

all-left : (slots : List Bool) → ((k : ℕ) → 1 ≤ k → k ≤ length slots → is_free slots k ≡ true) → left_in slots ≡ length slots
all-left [] free = refl
all-left (b ∷ bs) free =
    let here : b ≡ true = free 1 (omega arith) (omega arith) in
    ap (λ (t : Bool). cond t (suc (left_in bs)) (left_in bs)) here ∙ ap suc (all-left bs rest)
  where
    rest : (k : ℕ) → 1 ≤ k → k ≤ length bs → is_free bs k ≡ true
    rest zero first last = absurd (omega (arith, first))
    rest (suc k) first last = free (suc (suc k)) (omega arith) (omega (arith, last))

none-used : (table : SlotTable) (limit : ℕ) → AreFree table limit → used_in table ≡ 0
none-used table limit free =
    let long = free.long in
    let aside = free.aside in
    let left = all-left table.slots (λ k first last. free.free k first (omega (arith, last, long))) in
    omega (arith, left, aside)

module _ (held : StoreMemory) (free : HasAllFree held) where
  pub none-in-use : used_in held.slots.catalog + used_in held.slots.relations + used_in held.slots.indexes ≡ 0
  none-in-use =
      let one = none-used held.slots.catalog held.limits.snaps (free 1 (record { first = omega arith; last = omega arith })) in
      let two = none-used held.slots.relations held.limits.snaps (free 2 (record { first = omega arith; last = omega arith })) in
      let three = none-used held.slots.indexes held.limits.snaps (free 3 (record { first = omega arith; last = omega arith })) in
      omega (arith, one, two, three)

  -- where nothing is followed
  pub none-held : (image : Image) (followed : Followed) → ((file chain : ℕ) → followed file chain ≡ true → ⊥) → HoldsAll image followed held.limits.snaps held.slots
  none-held image followed none file is = record {
    long = (free file is).long;
    used = λ chain first follows. absurd (none file chain follows);
    pusher = λ chain entry follows stands. absurd (none file chain follows);
  }
