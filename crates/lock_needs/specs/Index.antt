-- What an owner's needs ask of each node, kept by node.
use Rattle.std.specs.Prelude.{◌≡◌, Bool, if◌then◌else◌, unwrap_or, List}
use Rattle.std.specs.Map.{lookup}
use Rattle.rdb_types.specs.declared.node.Node.{Node}
use Rattle.vms_queues.specs.declared.lock_mode.Mode.{Mode}
use Rattle.vms_queues.specs.declared.lock_mode.Mode.TheVariants.{NL}
use Rattle.vms_queues.specs.Modes.{least_above}
use Rattle.lock_needs.specs.declared.need.Need.{Need}
use Rattle.lock_needs.specs.declared.index.Asks.{Asks}
use Rattle.lock_needs.specs.Nodes.{same_node}
use Rattle.lock_needs.specs.Keeping.{below, needed_on}

abbrev pub Index : Type 0
Index = List (Node × Asks)

abbrev pub nothing_asked : Asks
nothing_asked = record { below = NL; on = NL }

-- what the index has at the node
abbrev pub asks_at : Index → Node → Asks
asks_at index n = unwrap_or (lookup (same_node n) index) nothing_asked

-- at each node the index has what these needs ask there
pub record IsIndexOf (needs : List Need) (index : Index) : Type 0 where
  pub below : (n : Node) → (asks_at index n).below ≡ below needs n
  pub on : (n : Node) → (asks_at index n).on ≡ needed_on needs n

-- the mode, joined to another where the test holds
abbrev pub joined_if : Bool → Mode → Mode → Mode
joined_if test more mode = if test then least_above mode more else mode

-- where the test holds the mode is joined to what is asked below a node, and nothing else changes
pub record AddsBelow (old new : Index) (test : Node → Bool) (mode : Mode) : Type 0 where
  pub below : (n : Node) → (asks_at new n).below ≡ joined_if (test n) mode (asks_at old n).below
  pub on : (n : Node) → (asks_at new n).on ≡ (asks_at old n).on

-- at this node the mode is joined to what is asked there, and nothing else changes
pub record AddsOn (old new : Index) (node : Node) (mode : Mode) : Type 0 where
  pub below : (n : Node) → (asks_at new n).below ≡ (asks_at old n).below
  pub on : (n : Node) → (asks_at new n).on ≡ joined_if (same_node n node) mode (asks_at old n).on
