-- What is true before a lock is brought down to a mode, and after.
use Rattle.std.specs.Prelude.{◌≡◌, ℕ, Bool, true, false, not, ◌||◌, ◌==◌, ◌⊎◌, List}
use Rattle.std.specs.List.{list_all}
use Rattle.rdb_types.specs.declared.node.Node.{Node}
use Rattle.vms_queues.specs.declared.lock_mode.Mode.{Mode}
use Rattle.vms_queues.specs.Modes.{at_most, intent}
use Rattle.vms_locks.specs.Table.{Table}
use Rattle.lock_needs.specs.declared.need.Need.{Need}
use Rattle.lock_needs.specs.Nodes.{is_on, contains}
use Rattle.lock_needs.specs.Needs.{all_covered, supposing}
use Rattle.lock_tree_laws.specs.LockTable.{granted_at, sought_at, HasIntents, LoweredAt}
use Rattle.lock_tree_laws.specs.Parties.{is_needed}

-- the need asks no more of the node than the bound
abbrev pub earns : Node → Mode → Need → Bool
earns x bound w = not (is_on x w.node) || at_most (intent w.mode) bound

-- The owner's lock at the node may come down to the mode as soon as what is needed below is taken there:
-- its locks below have intents that the mode allows, and it has no queued request there or below.
pub record MayComeDown (t : Table) (owner : ℕ) (n : Node) (keep : Mode) : Type 0 where
  pub intents : HasIntents t
  pub earned : (c : Node) → contains n c ≡ true → at_most (intent (granted_at t owner c)) keep ≡ true
  pub awake : (c : Node) → contains n c ≡ true → sought_at t owner c ≡ granted_at t owner c
  pub awake_here : sought_at t owner n ≡ granted_at t owner n
  pub weaker : at_most keep (granted_at t owner n) ≡ true

-- For these needs the owner has taken more locks below the node; all else is as it was.
pub record HasTaken (owner : ℕ) (n : Node) (needs : List Need) (old new : Table) : Type 0 where
  pub more : (x : Node) → at_most (granted_at old owner x) (granted_at new owner x) ≡ true
  pub elsewhere : (x : Node) → contains n x ≡ false → granted_at new owner x ≡ granted_at old owner x
  -- each lock that grew stands on or above one of the needs, and its intent is owed to them
  pub reason : (x : Node) → (granted_at new owner x ≡ granted_at old owner x) ⊎ (is_needed needs x ≡ true)
  pub earned : (x : Node) (bound : Mode) → at_most (intent (granted_at old owner x)) bound ≡ true → list_all (earns x bound) needs ≡ true → at_most (intent (granted_at new owner x)) bound ≡ true
  -- it has queued requests where it had some
  pub sought : (x : Node) → sought_at old owner x ≡ granted_at old owner x → sought_at new owner x ≡ granted_at new owner x
  pub sought_elsewhere : (x : Node) → contains n x ≡ false → sought_at new owner x ≡ sought_at old owner x
  pub others : (o : ℕ) (x : Node) → (o == owner) ≡ false → granted_at new o x ≡ granted_at old o x
  pub sought_others : (o : ℕ) (x : Node) → (o == owner) ≡ false → sought_at new o x ≡ sought_at old o x

-- The owner's lock at the node came down to the mode, after it had taken lower what would not be covered.
pub record BroughtDown (owner : ℕ) (n : Node) (keep : Mode) (needs : List Need) (old new : Table) : Type 0 where
  pub between : Table
  pub ready : MayComeDown between owner n keep
  pub taken : HasTaken owner n needs old between
  pub covered : all_covered (supposing n keep (granted_at between owner)) needs ≡ true
  pub lowered : LoweredAt between new owner n keep
