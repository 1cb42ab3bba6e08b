-- What is kept in memory of the slots of a snapshot file, and that it says what the versions rest on.
use Rattle.std.specs.Prelude.{ℕ, ◌+◌, ◌-◌, ◌<◌, ◌≤◌, ◌≡◌, ◌≢◌, ◌⊎◌, ◌==◌, ◌&&◌, Bool, true, false, List, length, slice_index_or}
use Rattle.rdb_types.specs.declared.keys.Dbkey.{Dbkey}
use Rattle.rdb_types.specs.declared.keys.Tsn.{Tsn}
use Rattle.rdb_outside.specs.Disk.{Image}
use Rattle.snapshot_file.specs.declared.entry.SnapEntry.{SnapEntry}
use Rattle.snapshot_file.specs.Slots.{is_free, left_in}
use Rattle.line_versions.specs.Versions.{Followed, snap_of}
use Rattle.line_versions.specs.Files.{entries_in}
use Rattle.line_versions.specs.Course.{pushed}
use Rattle.stable_lines.specs.Slots.{line_at}

-- Which slots are free, how many of those are set aside, and which transaction pushed what the others hold.
pub record SlotTable : Type 0 where
  pub slots : List Bool
  pub aside : ℕ
  pub pushers : List Tsn

-- of a slot that is free
abbrev pub nobody : Tsn
nobody = record { number = 0 }

-- the transaction that pushed what stands at a chain
abbrev pub pusher_at : List Tsn → ℕ → Tsn
pusher_at pushers chain = slice_index_or pushers (chain - 1) nobody

-- a slot is free exactly where nobody pushed what it holds
pub record IsTable (slots : List Bool) (pushers : List Tsn) : Type 0 where
  pub long : length pushers ≡ length slots
  pub agrees : (chain : ℕ) → 1 ≤ chain → chain ≤ length slots → is_free slots chain ≡ ((pusher_at pushers chain).number == 0)

-- so many slots, all of them free
pub record AreFree (table : SlotTable) (limit : ℕ) : Type 0 where
  pub long : length table.slots ≡ limit
  pub free : (chain : ℕ) → 1 ≤ chain → chain ≤ limit → is_free table.slots chain ≡ true
  pub aside : table.aside ≡ 0

abbrev pub with_aside : ℕ → SlotTable → SlotTable
with_aside more table = record { slots = table.slots; aside = table.aside + more; pushers = table.pushers }

abbrev pub without_aside : ℕ → SlotTable → SlotTable
without_aside more table = record { slots = table.slots; aside = table.aside - more; pushers = table.pushers }

-- fewer are free and not set aside than are wanted
pub record IsFullOf (table : SlotTable) (more limit : ℕ) : Type 0 where
  pub limit_is : limit ≡ length table.slots
  pub fewer : left_in table.slots < table.aside + more

-- the slot of the chain is one that the transaction has taken
pub record IsMine (table : SlotTable) (chain : ℕ) (tsn : Tsn) : Type 0 where
  pub first : 1 ≤ chain
  pub last : chain ≤ length table.slots
  pub used : is_free table.slots chain ≡ false
  pub its : pusher_at table.pushers chain ≡ tsn

-- A slot was taken for what a transaction pushes, and no other.
pub record TakesFor (old new : SlotTable) (chain : ℕ) (tsn : Tsn) : Type 0 where
  pub was_free : is_free old.slots chain ≡ true
  pub mine : IsMine new chain tsn
  pub others : (other : ℕ) → 1 ≤ other → other ≢ chain → (is_free new.slots other ≡ is_free old.slots other) × (pusher_at new.pushers other ≡ pusher_at old.pushers other)
  pub long : length new.slots ≡ length old.slots

-- The slot was given back, and no other.
pub record GivesOne (old new : SlotTable) (chain : ℕ) : Type 0 where
  pub free : is_free new.slots chain ≡ true
  pub whose : pusher_at new.pushers chain ≡ nobody
  pub others : (other : ℕ) → 1 ≤ other → other ≢ chain → (is_free new.slots other ≡ is_free old.slots other) × (pusher_at new.pushers other ≡ pusher_at old.pushers other)
  pub long : length new.slots ≡ length old.slots
  pub aside : new.aside ≡ old.aside

-- Slots that hold what a transaction pushed were given back, and no others: none that holds such is left.
pub record GivesBack (old new : SlotTable) (tsn : ℕ) : Type 0 where
  pub gone : (chain : ℕ) → 1 ≤ chain → chain ≤ length old.slots → (pusher_at new.pushers chain).number ≢ tsn
  pub others : (chain : ℕ) → 1 ≤ chain → (pusher_at old.pushers chain).number ≢ tsn → (is_free new.slots chain ≡ is_free old.slots chain) × (pusher_at new.pushers chain ≡ pusher_at old.pushers chain)
  pub long : length new.slots ≡ length old.slots
  pub aside : new.aside ≡ old.aside
  pub left : left_in old.slots ≤ left_in new.slots

-- ---- pushing

-- the slot of this chain is the transaction's, or it may take one
abbrev pub MayPush : SlotTable → ℕ → Tsn → Type 0
MayPush table chain tsn = ((chain ≡ 0) × (1 ≤ table.aside)) ⊎ IsMine table chain tsn

-- the slot that it had, or one that it takes
abbrev pub HasSlot : SlotTable → SlotTable → (before chain : ℕ) → Tsn → Type 0
HasSlot old new before chain tsn = ((new ≡ old) × (chain ≡ before) × IsMine old chain tsn) ⊎ ((before ≡ 0) × TakesFor old new chain tsn)

-- No fewer slots are free beside those that are set aside, of which one may be taken.
pub record Spends (old new : SlotTable) : Type 0 where
  pub long : length new.slots ≡ length old.slots
  pub left : left_in old.slots + new.aside ≤ left_in new.slots + old.aside
  pub aside : old.aside ≤ new.aside + 1

-- the line that was pushed aside stands in its slot
abbrev pub IsAside : Image → Image → Dbkey → Tsn → ℕ → Type 0
IsAside old new key tsn chain = entries_in new (snap_of key) chain (pushed key tsn (line_at old key))

-- ---- beside the versions

-- Each chain of the file that is followed is in use, and who pushed its entry is known.
pub record HoldsFile (image : Image) (followed : Followed) (file limit : ℕ) (table : SlotTable) : Type 0 where
  pub long : length table.slots ≡ limit
  pub used : (chain : ℕ) → 1 ≤ chain → followed file chain ≡ true → is_free table.slots chain ≡ false
  pub pusher : (chain : ℕ) (entry : SnapEntry) → followed file chain ≡ true → entries_in image file chain entry → pusher_at table.pushers chain ≡ entry.pusher

-- the chains of one file that hold what a transaction pushed
abbrev pub chains_of : ℕ → SlotTable → ℕ → ℕ → ℕ → Bool
chains_of file table tsn = λ f c. (f == file) && ((pusher_at table.pushers c).number == tsn)
