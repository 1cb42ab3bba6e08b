-- What the lock table tells of an owner at a node, and how a request changes it.
use Rattle.std.specs.Prelude.{◌≡◌, ℕ, true, false, ◌&&◌, ◌==◌, if◌then◌else◌, unwrap_or, ◌⊎◌}
use Rattle.rdb_types.specs.declared.node.Node.{Node}
use Rattle.vms_queues.specs.declared.lock_mode.Mode.{Mode}
use Rattle.vms_queues.specs.declared.lock_mode.Mode.TheVariants.{NL}
use Rattle.vms_queues.specs.Modes.{may_share, at_most, intent}
use Rattle.vms_queues.specs.Queues.{Queues, mode_in}
use Rattle.vms_locks.specs.Table.{Table, queues_at}
use Rattle.lock_needs.specs.Nodes.{same_node, contains}
use Rattle.lock_needs.specs.Needs.{AreCompatible, HasIntentsAbove}

-- the mode that the owner has been granted; NL where it has none
abbrev pub granted_in : ℕ → Queues → Mode
granted_in owner q = unwrap_or (mode_in owner q.granted) NL

-- the mode that the owner asks where a request of it is queued, else the granted one
abbrev pub sought_in : ℕ → Queues → Mode
sought_in owner q = unwrap_or (mode_in owner q.converting) (unwrap_or (mode_in owner q.waiting) (granted_in owner q))

abbrev pub granted_at : Table → ℕ → Node → Mode
granted_at t owner n = granted_in owner (queues_at t n)

abbrev pub sought_at : Table → ℕ → Node → Mode
sought_at t owner n = sought_in owner (queues_at t n)

-- locks of any two owners may stand side by side at each node
abbrev pub AllShare : Table → Type 0
AllShare t = (o u : ℕ) → (u == o) ≡ false → AreCompatible (granted_at t o) (granted_at t u)

-- the mode shares with all that others hold at the node
abbrev pub IsFree : Table → ℕ → Node → Mode → Type 0
IsFree t owner n mode = (u : ℕ) → (u == owner) ≡ false → may_share mode (granted_at t u n) ≡ true

-- whoever asks at the node what shares with the owner's lock asks what shares with the mode
abbrev pub BarsNobody : Table → ℕ → Node → Mode → Type 0
BarsNobody t owner n mode = (u : ℕ) → (u == owner) ≡ false → may_share (granted_at t owner n) (sought_at t u n) ≡ true → may_share mode (sought_at t u n) ≡ true

-- a lock, held or asked, has its intent at each node above, and what is asked is at least what is held
pub record HasIntents (t : Table) : Type 0 where
  pub ascends : (o : ℕ) (x : Node) → at_most (granted_at t o x) (sought_at t o x) ≡ true
  pub granted : (o : ℕ) → HasIntentsAbove (granted_at t o)
  pub sought : (o : ℕ) (a c : Node) → contains a c ≡ true → at_most (intent (sought_at t o c)) (granted_at t o a) ≡ true

-- the owner is granted the mode at the node at once: nothing else changes
pub record RaisedAt (old new : Table) (owner : ℕ) (n : Node) (mode : Mode) : Type 0 where
  pub granted : (o : ℕ) (x : Node) → granted_at new o x ≡ (if (o == owner) && same_node x n then mode else granted_at old o x)
  pub sought : (o : ℕ) (x : Node) → sought_at new o x ≡ (if (o == owner) && same_node x n then mode else sought_at old o x)

-- the owner's request for the mode is queued at the node: nothing else changes
pub record QueuedAt (old new : Table) (owner : ℕ) (n : Node) (mode : Mode) : Type 0 where
  pub granted : (o : ℕ) (x : Node) → granted_at new o x ≡ granted_at old o x
  pub sought : (o : ℕ) (x : Node) → sought_at new o x ≡ (if (o == owner) && same_node x n then mode else sought_at old o x)

-- The owner's lock is weakened or released. Others may be granted there what they asked.
pub record LoweredAt (old new : Table) (owner : ℕ) (n : Node) (mode : Mode) : Type 0 where
  pub own : granted_at new owner n ≡ mode
  pub elsewhere : (o : ℕ) (x : Node) → same_node x n ≡ false → granted_at new o x ≡ granted_at old o x
  pub others : (o : ℕ) → (o == owner) ≡ false → (granted_at new o n ≡ granted_at old o n) ⊎ (granted_at new o n ≡ sought_at old o n)
  pub sought_own : sought_at new owner n ≡ mode
  pub sought_others : (o : ℕ) (x : Node) → ((o == owner) && same_node x n) ≡ false → sought_at new o x ≡ sought_at old o x

-- Each other owner asks what it asked, and its lock at each node is as it was, or what its queued request asked and was granted.
pub record KeepsLocks (owner : ℕ) (old new : Table) : Type 0 where
  pub granted : (u : ℕ) (n : Node) → (u == owner) ≡ false → (granted_at new u n ≡ granted_at old u n) ⊎ (granted_at new u n ≡ sought_at old u n)
  pub sought : (u : ℕ) (n : Node) → (u == owner) ≡ false → sought_at new u n ≡ sought_at old u n
