-- What becomes of the slots of the snapshot files where a transaction has ended.
use Rattle.std.specs.Prelude.{ℕ, ◌≡◌, ◌≢◌, ◌≤◌, ◌⊎◌, true, List, length, Some, slice_get}
use Rattle.line_store.specs.Shelves.{Shelf}
use Rattle.line_store.specs.Calls.{Moves}
use Rattle.line_versions.specs.Versions.{sees}
use Rattle.stable_lines.specs.Slots.{IsAreaFile}
use Rattle.reader_lines.specs.version_writing.Slots.{GivesBack, pusher_at}
use Rattle.reader_lines.specs.version_writing.Tables.{table_of}
use Rattle.reader_lines.specs.version_writing.Wanting.{IsInUse, Sifts}
use Rattle.reader_lines.specs.version_writing.declared.snapshot_slots.SnapshotSlots.{SnapshotSlots}
use Rattle.disk_store.specs.declared.member.Member.{Member}
use Rattle.disk_store.specs.declared.member.MemberStage.TheVariants as stage
use Rattle.disk_store.specs.ChangeSteps.{no_slots, without_asides}
use Rattle.disk_store.specs.Memory.{StoreMemory, with_member}
use Rattle.disk_store.specs.Readers.{goes_at}

-- the member's transaction isn't the one of this number, or has ended; and it sees that, where it is a reader
abbrev pub IsUnwantedBy : ℕ → Member → Type 0
IsUnwantedBy tsn m = (goes_at m.stage ≡ true → m.tsn.number ≡ tsn → ⊥) × (m.stage ≡ stage.Reading → sees m.reader tsn ≡ true)

-- nobody wants what the transaction of this number pushed aside
abbrev pub IsUnwanted : ℕ → List Member → Type 0
IsUnwanted tsn members = (s : ℕ) (m : Member) → slice_get members s ≡ Some m → IsUnwantedBy tsn m

-- all slots that hold what it pushed are given back
pub record GivesUnwanted (tsn : ℕ) (members : List Member) (old new : SnapshotSlots) : Type 0 where
  pub unwanted : IsUnwanted tsn members
  pub back : (file : ℕ) → IsAreaFile file → GivesBack (table_of old file) (table_of new file) tsn

-- or none is, where somebody wants that
abbrev pub MayGive : ℕ → List Member → SnapshotSlots → SnapshotSlots → Type 0
MayGive tsn members old new = ((new ≡ old) × (IsUnwanted tsn members → ⊥)) ⊎ GivesUnwanted tsn members old new

abbrev pub without_slots : Member → Member
without_slots m = record m { aside = no_slots; pushed = length m.written.keys }

-- The slots that are set aside for a session are given back: no line of it is left to be pushed aside.
pub record LeavesAside (s : ℕ) (old new : StoreMemory) : Type 0 where
  pub member : Member
  pub was : slice_get old.members s ≡ Some member
  pub is : new ≡ record (with_member s (without_slots member) old) { slots = without_asides member.aside old.slots }

-- The slots that are set aside for a session are given back, and those that it pushed into where nobody wants them.
pub record GivesSlots (s : ℕ) (old new : StoreMemory) : Type 0 where
  pub member : Member
  pub was : slice_get old.members s ≡ Some member
  pub mid : SnapshotSlots
  pub gives : MayGive member.tsn.number old.members old.slots mid
  pub is : new ≡ record (with_member s (without_slots member) old) { slots = without_asides member.aside mid }

-- in each file all slots are given back that hold what nobody wants
abbrev pub SiftsAll : List Member → SnapshotSlots → SnapshotSlots → Type 0
SiftsAll members old new = (file : ℕ) → IsAreaFile file → Sifts (λ tsn. IsUnwanted tsn members) (table_of old file) (table_of new file)

-- The slots that are set aside for a session are given back, and all that hold what nobody wants.
pub record SiftsSlots (s : ℕ) (old new : StoreMemory) : Type 0 where
  pub member : Member
  pub was : slice_get old.members s ≡ Some member
  pub mid : SnapshotSlots
  pub sifts : SiftsAll old.members old.slots mid
  pub is : new ≡ record (with_member s (without_slots member) old) { slots = without_asides member.aside mid }

-- what a slot in use holds somebody wants
abbrev pub HasAllWanted : StoreMemory → Type 0
HasAllWanted h = (file : ℕ) → IsAreaFile file → (chain : ℕ) → IsInUse (table_of h.slots file).slots chain → IsUnwanted (pusher_at (table_of h.slots file).pushers chain).number h.members → ⊥

-- No slot is set aside for the session, and none holds what its transaction pushed, unless somebody wants that.
pub record HasNoSlots (s : ℕ) (h : StoreMemory) : Type 0 where
  pub member : Member
  pub is : slice_get h.members s ≡ Some member
  pub none : member.aside ≡ no_slots
  pub gone : IsUnwanted member.tsn.number h.members → (file : ℕ) → IsAreaFile file → (chain : ℕ) → 1 ≤ chain → chain ≤ length (table_of h.slots file).slots → (pusher_at (table_of h.slots file).pushers chain).number ≢ member.tsn.number

-- nothing changes but the room, of which no more is taken
abbrev pub StaysStill : ℕ → Shelf → Shelf → Type 0
StaysStill s old new = Moves s (old.seat s) old new × (new.clock.time ≡ old.clock.time)
