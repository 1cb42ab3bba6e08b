-- What a store keeps in memory as it begins.
use Rattle.std.specs.Prelude.{ℕ, ◌≡◌, List, [], Some, slice_get}
use Rattle.stable_lines.specs.Slots.{IsAreaFile}
use Rattle.reader_lines.specs.version_writing.Slots.{AreFree}
use Rattle.reader_lines.specs.version_writing.Tables.{table_of}
use Rattle.disk_store.specs.declared.member.Member.{Member}
use Rattle.disk_store.specs.declared.member.MemberStage.TheVariants as stage
use Rattle.disk_store.specs.Memory.{StoreMemory}

-- A session without a transaction.
pub record IsFresh (m : Member) : Type 0 where
  pub at : m.stage ≡ stage.Outside
  pub written : m.written ≡ record { lines = []; keys = [] }
  pub number : m.tsn.number ≡ 1
  pub aside : m.aside ≡ record { catalog = 0; relations = 0; indexes = 0 }

abbrev pub AreFresh : List Member → Type 0
AreFresh members = (s : ℕ) (m : Member) → slice_get members s ≡ Some m → IsFresh m

-- each slot of the snapshot files is free
abbrev pub HasAllFree : StoreMemory → Type 0
HasAllFree held = (file : ℕ) → IsAreaFile file → AreFree (table_of held.slots file) held.limits.snaps
