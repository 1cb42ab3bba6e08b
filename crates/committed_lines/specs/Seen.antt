-- The open transactions of members, as memory has them.
use Rattle.std.specs.Prelude.{ℕ, ◌≡◌, ◌≤◌, List, length, Option, slice_get, Some}
use Rattle.rdb_types.specs.declared.keys.Dbkey.{Dbkey}
use Rattle.rdb_types.specs.declared.keys.Tsn.{Tsn}
use Rattle.stable_lines.specs.Slots.{Undo}
use Rattle.stable_lines.specs.Progress.{Open}
use Rattle.member_steps.specs.disk_seats.Ledgers.{Ledger}

-- the number of a transaction, and the keys of its before-images in their order
pub record Seen : Type 0 where
  pub tsn : Tsn
  pub keys : List Dbkey

-- It is this open transaction.
pub record IsSeen (o : Open) (seen : Seen) : Type 0 where
  pub tsn : seen.tsn ≡ o.tsn
  pub keys : (i : ℕ) (undo : Undo) → slice_get o.entries i ≡ Some undo → slice_get seen.keys i ≡ Some undo.key

-- a member, in the place of its number, of whose transaction before-images stand
pub record Stands {T : Type 0} (seen_of : T → Option Seen) (members : List T) (member : ℕ) : Type 0 where
  pub its : T
  pub is : slice_get members member ≡ Some its
  pub seen : Seen
  pub has : seen_of its ≡ Some seen

-- What is seen of a member is its open transaction, and each open transaction with before-images that stand is seen.
pub record AreSeen {T : Type 0} (seen_of : T → Option Seen) (g : Ledger) (members : List T) : Type 0 where
  pub each : (member : ℕ) (its : T) (seen : Seen) → slice_get members member ≡ Some its → seen_of its ≡ Some seen → (o : Open) × (g.base.going member ≡ Some o) × IsSeen o seen
  pub none_else : (member : ℕ) (o : Open) → g.base.going member ≡ Some o → 1 ≤ length o.entries → Stands seen_of members member
