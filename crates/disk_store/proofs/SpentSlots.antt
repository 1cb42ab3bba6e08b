-- What a push takes of the slots: no more are in use or set aside than before.
use Rattle.std.proofs.Common.{◌≡◌, ◌≢◌, ◌≤◌, ◌-◌, ◌==◌, ℕ, Bool, true, false, if◌then◌else◌, List, [], ◌∷◌, length, ⊎_elim, refl, sym, ap, subst, ◌∙◌, arith}
use Rattle.snapshot_file.specs.Slots.{left_in}
use Rattle.rdb_outside.specs.Disk.{View}
use Rattle.line_versions.specs.Versions.{Followed}
use Rattle.line_store.specs.Shelves.{Space}
use Rattle.line_store.specs.Calls.{KeepsSpace}
use Rattle.line_moves.proofs.Putting.{nat_cases}
use Rattle.stable_lines.specs.Slots.{IsAreaFile}
use Rattle.reader_lines.specs.version_writing.Slots.{SlotTable, HoldsFile, Spends, without_aside}
use Rattle.reader_lines.specs.version_writing.Tables.{HoldsAll, table_of}
use Rattle.reader_lines.specs.version_writing.declared.snapshot_slots.SnapshotSlots.{SnapshotSlots}
use Rattle.reader_lines.specs.version_writing.declared.snapshot_slots.Wanted.{Wanted}
use Rattle.disk_store.specs.ChangeSteps.{without_asides}
use Rattle.disk_store.specs.Memory.{StoreMemory}
use Rattle.member_rooms.specs.store_shows.Rooms.{HasPages}
use Rattle.disk_store.specs.Shown.{SpaceStands, used_in, pages_of}
use Rattle.disk_store.proofs.Changed.{used-all}

no-more-left : (xs : List Bool) → left_in xs ≤ length xs
no-more-left [] = omega arith
no-more-left (true ∷ xs) = let rest = no-more-left xs in omega (arith, rest)
no-more-left (false ∷ xs) = let rest = no-more-left xs in omega (arith, rest)

spends-one : (old new : SlotTable) → Spends old new → used_in new ≤ used_in old
spends-one old new spends =
    let a = no-more-left old.slots in
    let b = no-more-left new.slots in
    omega (arith, a, b, spends.long, spends.left)

same-used : (old new : SlotTable) → new ≡ old → used_in new ≤ used_in old
same-used old new same = let e = ap used_in same in omega (arith, e)

-- of all files, where one has spent
pub spends-all : (old new : SnapshotSlots) (file : ℕ) → ((f : ℕ) → IsAreaFile f → f ≢ file → table_of new f ≡ table_of old f) → Spends (table_of old file) (table_of new file) → used-all new ≤ used-all old
spends-all old new file others spends =
    let a = at 1 (record { first = omega arith; last = omega arith }) in
    let b = at 2 (record { first = omega arith; last = omega arith }) in
    let c = at 3 (record { first = omega arith; last = omega arith }) in
    omega (arith, a, b, c)
  where
    at : (f : ℕ) → IsAreaFile f → used_in (table_of new f) ≤ used_in (table_of old f)
    at f is = ⊎_elim
        (λ (same : f ≡ file). subst (λ (n : ℕ). used_in (table_of new n) ≤ used_in (table_of old n)) (sym same) (spends-one (table_of old file) (table_of new file) spends))
        (λ apart. same-used (table_of old f) (table_of new f) (others f is apart))
        (nat_cases f file)

-- ---- slots that aren't set aside any more

-- they hold what they held
pub held-left : (v : View) (followed : Followed) (limit : ℕ) (wanted : Wanted) (slots : SnapshotSlots) → HoldsAll v.content followed limit slots → HoldsAll v.content followed limit (without_asides wanted slots)
held-left v followed limit wanted slots was file is = by (file == 1) (file == 2) (was file is)
  where
    less : (n : ℕ) (t : SlotTable) → HoldsFile v.content followed file limit t → HoldsFile v.content followed file limit (without_aside n t)
    less n t has = record { long = has.long; used = has.used; pusher = has.pusher }

    by : (a b : Bool) → HoldsFile v.content followed file limit (if a then slots.catalog else (if b then slots.relations else slots.indexes)) →
        HoldsFile v.content followed file limit (if a then (without_asides wanted slots).catalog else (if b then (without_asides wanted slots).relations else (without_asides wanted slots).indexes))
    by true b has = less wanted.catalog slots.catalog has
    by false true has = less wanted.relations slots.relations has
    by false false has = less wanted.indexes slots.indexes has

used-left : (n : ℕ) (t : SlotTable) → used_in (without_aside n t) ≤ used_in t
used-left n t = omega arith

pub fewer-left : (wanted : Wanted) (slots : SnapshotSlots) → used-all (without_asides wanted slots) ≤ used-all slots
fewer-left wanted slots =
    let a = used-left wanted.catalog slots.catalog in
    let b = used-left wanted.relations slots.relations in
    let c = used-left wanted.indexes slots.indexes in
    omega (arith, a, b, c)

-- ---- the space, where the slots are others

abbrev pub space-less : (old new : SnapshotSlots) → Space → Space
space-less old new space = record { limits = space.limits; taken = space.taken; snaps = space.snaps - (used-all old - used-all new); slots = space.slots }

pub keeps-less : (old new : SnapshotSlots) (space : Space) → KeepsSpace space (space-less old new space)
keeps-less old new space = record { limits = refl; taken = λ file page. refl; snaps = omega arith; slots = omega arith }

pub stands-less : (held behind : StoreMemory) (space : Space) → behind.limits ≡ held.limits → behind.tables ≡ held.tables → behind.next ≡ held.next → used-all behind.slots ≤ used-all held.slots → SpaceStands held space → SpaceStands behind (space-less held.slots behind.slots space)
stands-less held behind space limits tables next fewer has = record {
  limits = has.limits ∙ sym limits;
  pages = subst (λ t. HasPages (pages_of t) (space-less held.slots behind.slots space)) (sym tables) (record { taken = has.pages.taken; limit = has.pages.limit });
  snaps = let old = has.snaps in omega (arith, old, fewer);
  slots = has.slots ∙ ap (λ n. n.slot - 1) (sym next);
}
