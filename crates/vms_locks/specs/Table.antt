-- The lock table: the queues of each node, and who waits for whom over all nodes.
use Rattle.std.specs.Prelude.{◌≡◌, ℕ, ◌+◌, Bool, true, false, unwrap_or, is_some, if◌then◌else◌, Some, List, length}
use Rattle.std.specs.Map.{lookup}
use Rattle.indexmap.specs.IndexMap.{IndexMap, spare}
use Rattle.rdb_types.specs.declared.node.Node.{Node}
use Rattle.rdb_types.specs.contracts.node.NodePartialEq.TheImpl as node_eq
use Rattle.vms_queues.specs.declared.lock_mode.Mode.{Mode}
use Rattle.vms_queues.specs.Queues.{Queues, IsSound, is_settled, is_queued, no_queues, has_owner, with_mode, with_request, with_conversion}
use Rattle.vms_queues.specs.Owners.{HasOwners}
use Rattle.vms_queues.specs.Waits.{waits}
use Rattle.vms_locks.specs.Walks.{IsAcyclic}

-- what `==` of nodes answers
abbrev pub same_node : Node → Node → Bool
same_node = (node_eq.ghosts).eq

-- the entries of the table, and how many nodes more can be listed without memory
pub record Table : Type 0 where
  pub entries : List (Node × Queues)
  pub spare : ℕ

abbrev pub table_of : {S : Type 0} → IndexMap Node Queues S → Table
table_of m = record { entries = m.entries; spare = spare m }

-- how many nodes can be listed without memory
abbrev pub capacity : Table → ℕ
capacity t = length t.entries + t.spare

-- the table has an entry of the node
abbrev pub is_listed : Table → Node → Bool
is_listed t node = is_some (lookup (same_node node) t.entries)

-- the queues of a node: empty where the table has no entry of it
abbrev pub queues_at : Table → Node → Queues
queues_at t node = unwrap_or (lookup (same_node node) t.entries) no_queues

-- these queues at the node, and elsewhere the others
abbrev pub queues_with : (Node → Queues) → Node → Queues → Node → Queues
queues_with at node q n = if same_node node n then q else at n

-- the new table has these queues at the node, and elsewhere those of the old
abbrev pub ChangesAt : Table → Table → Node → Queues → Type 0
ChangesAt old new node q = (n : Node) → queues_at new n ≡ queues_with (queues_at old) node q n

-- each entry of the table is of some use
abbrev pub HasNoEmpty : Table → Type 0
HasNoEmpty t = (n : Node) → lookup (same_node n) t.entries ≡ Some no_queues → ⊥

-- only owners hold or ask a lock at each node
abbrev pub OnlyOwners : (Node → Queues) → Type 0
OnlyOwners at = (n : Node) → HasOwners (at n)

-- a waits for b at some node
abbrev pub WaitsIn : (Node → Queues) → ℕ → ℕ → Type 0
WaitsIn at a b = (n : Node) × (waits (at n) a b ≡ true)

-- the owner has no queued request
abbrev pub IsAwake : (Node → Queues) → ℕ → Type 0
IsAwake at owner = (n : Node) → is_queued owner (at n) ≡ false

-- the owner has queued requests at one node at most
abbrev pub SleepsOnce : (Node → Queues) → ℕ → Type 0
SleepsOnce at owner = (m n : Node) → is_queued owner (at m) ≡ true → is_queued owner (at n) ≡ true → m ≡ n

-- What is true of the table at every moment.
pub record IsLive (at : Node → Queues) : Type 0 where
  pub acyclic : IsAcyclic (WaitsIn at)
  pub once : (owner : ℕ) → SleepsOnce at owner
  pub sound : (n : Node) → IsSound (at n)
  pub settled : (n : Node) → is_settled (at n) ≡ true

-- the queues with the owner's request in its queue: that of conversions where the owner holds a lock
abbrev pub requested : Queues → ℕ → Mode → Queues
requested q owner mode = if has_owner owner q.granted then with_conversion q owner mode else with_request q owner mode

-- nobody comes to wait anew where the owner's lock gets the mode
abbrev pub AddsNoWait : Queues → ℕ → Mode → Type 0
AddsNoWait q owner mode = (a b : ℕ) → waits (record q { granted = with_mode owner mode q.granted }) a b ≡ true → waits q a b ≡ true

-- a would wait for b at some node if the owner's request at the node were queued
abbrev pub WaitsIf : (Node → Queues) → ℕ → Node → Mode → ℕ → ℕ → Type 0
WaitsIf at owner node mode = WaitsIn (queues_with at node (requested (at node) owner mode))
