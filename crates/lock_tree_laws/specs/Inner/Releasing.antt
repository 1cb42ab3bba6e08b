-- An owner's locks are released, lower levels first.
use Rattle.std.specs.Prelude.{◌≡◌, ℕ, Bool, true, false, ◌||◌, Option, Some, None, ◌⊎◌}
use Rattle.rdb_types.specs.declared.node.Level.{Level}
use Rattle.rdb_types.specs.declared.node.Node.{Node}
use Rattle.vms_queues.specs.declared.lock_mode.Mode.TheVariants.{NL}
use Rattle.vms_locks.specs.Table.{Table}
use Rattle.lock_needs.specs.declared.party.OpenWant.{OpenWant}
use Rattle.lock_needs.specs.Party.{Party}
use Rattle.lock_needs.specs.Nodes.{is_above, is_on}
use Rattle.lock_tree_laws.specs.LockTable.{granted_at, sought_at, HasIntents}
use Rattle.lock_tree_laws.specs.Parties.{is_needed, KeepsOthers}
use Rattle.rdb_types.specs.contracts.node.LevelPartialEq.TheImpl as level_eq

-- what `==` of levels answers
abbrev pub same_level : Level → Level → Bool
same_level = (level_eq.ghosts).eq

-- the owner has nothing queued
abbrev pub IsQuiet : Table → ℕ → Type 0
IsQuiet t owner = (x : Node) → sought_at t owner x ≡ granted_at t owner x

-- it holds nothing at levels below this one
abbrev pub IsClearBelow : Table → ℕ → Level → Type 0
IsClearBelow t owner level = (x : Node) → is_above level x.level ≡ true → granted_at t owner x ≡ NL

-- it holds nothing at this level
abbrev pub HasNoneAt : Table → ℕ → Level → Type 0
HasNoneAt t owner level = (x : Node) → same_level x.level level ≡ true → granted_at t owner x ≡ NL

-- it holds what it did, or nothing
abbrev pub HasLess : ℕ → Table → Table → Type 0
HasLess owner old new = (x : Node) → (granted_at new owner x ≡ granted_at old owner x) ⊎ (granted_at new owner x ≡ NL)

abbrev pub is_on_want : Option OpenWant → Node → Bool
is_on_want None n = false
is_on_want (Some w) n = is_on n w.here

-- its locks stand on or above its needs and the node that its open want has come to
abbrev pub HasPlaces : Table → ℕ → Party → Type 0
HasPlaces t owner p = (x : Node) → (granted_at t owner x ≡ NL) ⊎ ((is_needed p.needs x || is_on_want p.opened x) ≡ true)

-- what is true while locks of a level are released
pub record IsReleasing (owner : ℕ) (level : Level) (old new : Table) : Type 0 where
  pub intents : HasIntents new
  pub quiet : IsQuiet new owner
  pub clear : IsClearBelow new owner level
  pub less : HasLess owner old new
  pub others : KeepsOthers owner old new
