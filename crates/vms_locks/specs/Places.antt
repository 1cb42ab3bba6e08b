-- Where each owner has a queued request.
use Rattle.std.specs.Prelude.{◌≡◌, ℕ, Bool, true, not, ◌&&◌, if◌then◌else◌, Option, Some, None, List, slice_index_or}
use Rattle.rdb_types.specs.declared.node.Node.{Node}
use Rattle.vms_queues.specs.Queues.{Queues, is_queued}
use Rattle.vms_queues.specs.Owners.{is_owner}
use Rattle.vms_locks.specs.Table.{same_node}

-- the owner's place among these, which stand by the owners' numbers
abbrev pub place_of : List (Option Node) → ℕ → Option Node
place_of places owner = slice_index_or places owner None

-- the owner's place once the node's queues have changed: none where it was the node and the owner is no longer queued there
abbrev pub still_at : Node → Bool → Option Node → Option Node
still_at node queued None = None
still_at node queued (Some n) = if same_node n node && not queued then None else Some n

-- the place of each owner is the node at which it has a queued request
pub record KnowsPlaces (place : ℕ → Option Node) (at : Node → Queues) : Type 0 where
  pub asleep : (owner : ℕ) (node : Node) → place owner ≡ Some node → is_queued owner (at node) ≡ true
  pub only : (owner : ℕ) (node : Node) → is_queued owner (at node) ≡ true → place owner ≡ Some node
  pub ranges : (owner : ℕ) (node : Node) → place owner ≡ Some node → is_owner owner ≡ true
