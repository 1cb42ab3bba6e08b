-- Which slots of a snapshot file are in use, and which of them are given back where nobody wants what they hold.
use Rattle.std.specs.Prelude.{ℕ, ◌+◌, ◌<◌, ◌≤◌, ◌≡◌, ◌⊎◌, ◌==◌, ◌&&◌, Bool, true, false, List, length, Some, slice_get, slice_index}
use Rattle.rdb_types.specs.declared.keys.Tsn.{Tsn}
use Rattle.snapshot_file.specs.Slots.{Store, is_free, left_in}
use Rattle.line_versions.specs.Versions.{sees}
use Rattle.line_versions.specs.Course.{Course, Reading}
use Rattle.version_writing.specs.Slots.{SlotTable, pusher_at}

-- ---- slots in use

pub record IsInUse (slots : List Bool) (chain : ℕ) : Type 0 where
  pub first : 1 ≤ chain
  pub last : chain ≤ length slots
  pub used : is_free slots chain ≡ false

-- The first so many are the slots in use, each of them once.
pub record AreTaken (slots : List Bool) (taken : List ℕ) (count : ℕ) : Type 0 where
  pub long : length taken ≡ length slots
  pub few : count + left_in slots ≡ length slots
  pub used : (i : ℕ) → i < count → IsInUse slots (slice_index taken i)
  pub has : (chain : ℕ) → IsInUse slots chain → (i : ℕ) × (i < count) × (slice_index taken i ≡ chain)
  pub once : (i k : ℕ) → i < count → k < count → slice_index taken i ≡ slice_index taken k → i ≡ k

abbrev pub with_pushers : Store → List Tsn → SlotTable
with_pushers store pushers = record { slots = store.slots; aside = store.aside; pushers = pushers }

-- ---- what nobody wants

-- none of these members wants what the transaction of this number pushed aside
abbrev pub IsUnwantedIn : {T : Type 0} → (T → ℕ → Type 0) → List T → ℕ → Type 0
IsUnwantedIn unwanted members tsn = (s : ℕ) (m : _) → slice_get members s ≡ Some m → unwanted m tsn

-- the slot is as it was, or it was given back, and nobody wants what it held
abbrev pub StaysOrGiven : (ℕ → Type 0) → SlotTable → SlotTable → ℕ → Type 0
StaysOrGiven Unwanted old new chain = ((is_free new.slots chain ≡ is_free old.slots chain) × (pusher_at new.pushers chain ≡ pusher_at old.pushers chain))
    ⊎ ((is_free new.slots chain ≡ true) × Unwanted (pusher_at old.pushers chain).number)

-- Some of the slots that nobody wants were given back, and no others.
pub record OnlyGives (Unwanted : ℕ → Type 0) (old new : SlotTable) : Type 0 where
  pub each : (chain : ℕ) → 1 ≤ chain → StaysOrGiven Unwanted old new chain
  pub long : length new.slots ≡ length old.slots
  pub aside : new.aside ≡ old.aside
  pub left : left_in old.slots ≤ left_in new.slots

-- All of them were: what a slot in use holds somebody wants.
pub record Sifts (Unwanted : ℕ → Type 0) (old new : SlotTable) : Type 0 where
  pub may : OnlyGives Unwanted old new
  pub wanted : (chain : ℕ) → IsInUse new.slots chain → Unwanted (pusher_at new.pushers chain).number → ⊥

-- the chains of one file that are free now
abbrev pub free_in : ℕ → SlotTable → ℕ → ℕ → Bool
free_in file table = λ f c. (f == file) && is_free table.slots c

-- the transaction of this number has ended, and each reader sees it
abbrev pub IsPast : Course → ℕ → Type 0
IsPast course tsn = (course.going tsn ≡ false) × ((r : ℕ) (x : Reading) → course.reader r ≡ Some x → sees x.start tsn ≡ true)
