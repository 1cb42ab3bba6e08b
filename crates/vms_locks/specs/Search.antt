-- What the search for a cycle keeps: owners from whom the searched one is reached, each with the place of the next on the way.
use Rattle.std.specs.Prelude.{◌≡◌, ℕ, ◌<◌, Bool, ◌==◌, List, [], ◌∷◌, length, slice_index_or}
use Rattle.std.specs.List.{list_any}
use Rattle.rdb_types.specs.declared.node.Node.{Node}
use Rattle.vms_queues.specs.Queues.{Queues}
use Rattle.vms_locks.specs.declared.search.Reached.{Reached}
use Rattle.vms_locks.specs.declared.waits.Asked.{Asked}
use Rattle.vms_locks.specs.Table.{WaitsIf}

-- a would wait for b if what is asked were queued
abbrev pub WaitsAsked : (Node → Queues) → Asked → ℕ → ℕ → Type 0
WaitsAsked at asked = WaitsIf at asked.owner asked.node asked.mode

-- the owner is among these
abbrev pub is_left : List ℕ → ℕ → Bool
is_left left owner = list_any (λ o. o == owner) left

-- one of these is the owner's
abbrev pub is_reached : List Reached → ℕ → Bool
is_reached rs owner = list_any (λ r. r.owner == owner) rs

-- but for the first, the next of each stands before it
abbrev pub LeadsBack : List Reached → Type 0
LeadsBack rs = (k : ℕ) (d : Reached) → 0 < k → k < length rs → (slice_index_or rs k d).next < k

-- the owners from the place on to the first, without the first
abbrev pub IsWayBack : List Reached → ℕ → List ℕ → Type 0
IsWayBack rs k [] = k ≡ 0
IsWayBack rs k (o ∷ os) = (0 < k) × ((d : Reached) → ((slice_index_or rs k d).owner ≡ o) × IsWayBack rs (slice_index_or rs k d).next os)
