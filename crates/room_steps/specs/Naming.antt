-- A line that is named for a room.
use Rattle.std.specs.Prelude.{◌≡◌, ◌==◌, ◌&&◌, not, ℕ, Bool, true, false, List, Option, Some, None, is_some}
use Rattle.std.specs.FinMap.Entries.{find}
use Rattle.rdb_types.specs.declared.keys.Dbkey.{Dbkey}
use Rattle.rdb_types.specs.declared.node.Node.{Node}
use Rattle.rdb_types.specs.Order.{dbkey_order}
use Rattle.vms_queues.specs.declared.lock_mode.Mode.{Mode}
use Rattle.vms_queues.specs.declared.lock_mode.Mode.TheVariants.{NL}
use Rattle.lock_needs.specs.declared.party.OpenWant.{OpenWant}
use Rattle.lock_needs.specs.Keeping.{needed_on}
use Rattle.lock_needs.specs.Nodes.{same_node}
use Rattle.lock_needs.specs.Party.{Party}
use Rattle.lock_tree_laws.specs.Forest.{State, party_of}
use Rattle.line_view.specs.declared.need.Room.{Room}
use Rattle.kept_apart.specs.Guards.{line_node}
use Rattle.line_store.specs.Rooms.{IsBehind, IsRoom, IsFull}
use Rattle.line_store.specs.Seats.{IsMember}
use Rattle.line_store.specs.Shelves.{Shelf}
use Rattle.line_store.specs.Sights.{Sight}
use Rattle.room_steps.specs.declared.naming.Named.{Named}
use Rattle.room_steps.specs.declared.naming.Named.TheVariants.{Line, Awaited, Full, Unfit}

abbrev pub is_nothing : Mode → Bool
is_nothing NL = true
is_nothing _ = false

-- the open want is of a need on the node
abbrev pub wants_on : Option OpenWant → Node → Bool
wants_on (Some w) n = same_node w.need.node n
wants_on None n = false

-- its owner has got no need on the node, and wants none there
abbrev pub is_clear_of : Party → Node → Bool
is_clear_of p n = is_nothing (needed_on p.needs n) && not (wants_on p.opened n)

-- so it is of each session but s
abbrev pub AreClear : State → ℕ → Node → Type 0
AreClear locks s n = (t : ℕ) → IsMember t → (t == s) ≡ false → is_clear_of (party_of locks.parties t) n ≡ true

-- A line of the room's area that was given for no room, and on which the store lets a new one be put, asked behind `from`.
pub record IsLineFor (sight : Sight) (s : ℕ) (room : Room) (given : List (Dbkey × Room)) (from : Option Dbkey) (key : Dbkey) : Type 0 where
  pub area : key.area ≡ room.area
  pub new : is_some (find dbkey_order key given) ≡ false
  pub free : (h : Shelf) → sight.shows h → IsRoom h s room.area from key

-- what is named: a line that no other session needs or wants; one that the store names again, though it was asked for one behind; or the limit of a full area
abbrev pub IsNamed : Sight → State → ℕ → Room → List (Dbkey × Room) → Named → Type 0
IsNamed sight locks s room given (Line key) = (from : Option Dbkey) × IsLineFor sight s room given from key × AreClear locks s (line_node key)
IsNamed sight locks s room given (Awaited key) = (from : Option Dbkey) × IsLineFor sight s room given from key × (IsBehind from key → ⊥)
IsNamed sight locks s room given (Full limit) = (h : Shelf) → sight.shows h → IsFull h s room.area limit
IsNamed sight locks s room given Unfit = Unit {0}
