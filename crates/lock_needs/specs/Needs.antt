-- Needs: which conflict, and what covers them.
use Rattle.std.specs.Prelude.{◌≡◌, Bool, true, false, not, ◌&&◌, ◌||◌, if◌then◌else◌, List}
use Rattle.std.specs.List.{list_all}
use Rattle.rdb_types.specs.declared.node.Level.{Level}
use Rattle.rdb_types.specs.declared.node.Level.TheVariants.{Area, Range, Page, Journal}
use Rattle.rdb_types.specs.declared.node.Node.{Node}
use Rattle.vms_queues.specs.declared.lock_mode.Mode.{Mode}
use Rattle.vms_queues.specs.declared.lock_mode.Mode.TheVariants.{PR, PW, EX}
use Rattle.vms_queues.specs.Modes.{may_share, at_most, intent}
use Rattle.lock_needs.specs.declared.need.Need.{Need}
use Rattle.lock_needs.specs.Nodes.{same_node, contains, is_above, on_way}

-- Needs on one node conflict by their modes; where one node contains the other, the upper mode with the intent of the lower.
abbrev pub conflict : Need → Need → Bool
conflict a b =
    (same_node a.node b.node && not (may_share a.mode b.mode)) || ((contains a.node b.node && not (may_share a.mode (intent b.mode))) || (contains b.node a.node && not (may_share b.mode (intent a.mode))))

-- a lock of the first mode covers a need of the second on a node that its node contains
abbrev pub covers_below : Mode → Mode → Bool
covers_below EX m = true
covers_below PR PR = true
covers_below PW PR = true
covers_below held m = false

-- the modes that an owner holds, by node; NL where it holds none
abbrev pub Holding : Type 0
Holding = Node → Mode

-- the lock at the node of this level on the way covers the need
abbrev pub covers_from : Holding → Need → Level → Bool
covers_from held w level = is_above level w.node.level && covers_below (held (on_way level w.node)) w.mode

-- some lock on a containing node covers the need
abbrev pub covered_above : Holding → Need → Bool
covered_above held w = covers_from held w Area || (covers_from held w Range || covers_from held w Page)

-- some lock covers the need
abbrev pub is_covered : Holding → Need → Bool
is_covered held w = at_most w.mode (held w.node) || covered_above held w

-- each need is covered
abbrev pub all_covered : Holding → List Need → Bool
all_covered held ws = list_all (is_covered held) ws

-- the holding, with this mode at the node
abbrev pub supposing : Node → Mode → Holding → Holding
supposing n keep held = λ x. if same_node x n then keep else held x

-- Needs that the engine takes: below the level of areas to read or exclusively, on an area and on the journal in any mode.
abbrev pub is_plain_at : Level → Mode → Bool
is_plain_at Area m = true
is_plain_at Journal m = true
is_plain_at l PR = true
is_plain_at l EX = true
is_plain_at l m = false

abbrev pub is_plain : Need → Bool
is_plain w = is_plain_at w.node.level w.mode

-- the locks of two owners may stand side by side at each node
abbrev pub AreCompatible : Holding → Holding → Type 0
AreCompatible mine theirs = (n : Node) → may_share (mine n) (theirs n) ≡ true

-- above each lock stands its intent
abbrev pub HasIntentsAbove : Holding → Type 0
HasIntentsAbove held = (a c : Node) → contains a c ≡ true → at_most (intent (held c)) (held a) ≡ true
