-- The tree of nodes: an area contains its ranges, a range its pages, a page its lines. The journal stands alone.
use Rattle.std.specs.Prelude.{ℕ, Bool, true, false, ◌&&◌, ◌||◌, ◌-◌, ◌/◌, if◌then◌else◌, Option, Some, None}
use Rattle.rdb_types.specs.declared.node.Level.{Level}
use Rattle.rdb_types.specs.declared.node.Level.TheVariants.{Area, Range, Page, Line, Journal}
use Rattle.rdb_types.specs.declared.node.Node.{Node}
use Rattle.rdb_types.specs.contracts.node.NodePartialEq.TheImpl as node_eq

-- what `==` of nodes answers
abbrev pub same_node : Node → Node → Bool
same_node = (node_eq.ghosts).eq

-- whether nodes of the first level contain nodes of the second
abbrev pub is_above : Level → Level → Bool
is_above Area Range = true
is_above Area Page = true
is_above Area Line = true
is_above Range Page = true
is_above Range Line = true
is_above Page Line = true
is_above upper lower = false

-- the level under this one
abbrev pub next_level : Level → Level
next_level Area = Range
next_level Range = Page
next_level Page = Line
next_level Line = Line
next_level Journal = Journal

-- The number of the range in which a node of this level and place lies: range r has the 64 pages behind page 64 r.
abbrev pub range_of : Level → ℕ → ℕ
range_of Area at = 0
range_of Range at = at
range_of Page at = (at - 1) / 64
range_of Line at = (at - 1) / 64
range_of Journal at = 0

-- The node of this level on the way to a node of the second level; the node itself at its own level, whatever its other fields.
abbrev pub way : Level → Level → Node → Node
way Area Area n = n
way Area l n = record { level = Area; area = n.area; at = 0; line = 0 }
way Range Range n = n
way Range l n = record { level = Range; area = n.area; at = range_of l n.at; line = 0 }
way Page Page n = n
way Page l n = record { level = Page; area = n.area; at = n.at; line = 0 }
way Line l n = n
way Journal l n = n

abbrev pub on_way : Level → Node → Node
on_way level n = way level n.level n

-- the first node strictly contains the second
abbrev pub contains : (upper lower : Node) → Bool
contains a b = is_above a.level b.level && same_node a (on_way a.level b)

-- the first node is the second or contains it
abbrev pub is_on : (upper lower : Node) → Bool
is_on a b = same_node a b || contains a b

-- the node one level under the first on the way to the second
abbrev pub step_towards : (upper lower : Node) → Node
step_towards a b = on_way (next_level a.level) b

-- the level over this one; the highest has none over it but itself
abbrev pub level_over : Level → Level
level_over Area = Area
level_over Range = Area
level_over Page = Range
level_over Line = Page
level_over Journal = Journal

-- the node next above; None where nothing contains the node
abbrev pub above_of : Node → Option Node
above_of n = if is_above (level_over n.level) n.level then Some (on_way (level_over n.level) n) else None
