-- The nodes of a sorted index.
use Rattle.std.specs.Prelude.{ℕ, ◌≤◌, ◌≡◌, ◌↔◌, List, [], ◌∷◌, ◌++◌, length, Option, Some, None, IsSome, nat_eq, if◌then◌else◌}
use Rattle.std.specs.declared.cmp.Ordering.TheVariants.{Less}
use Rattle.std.specs.List.{All, AllAdjacentBelow, flat_map}
use Rattle.record_format.specs.slot_fields.Fields.{Field, number, gap, Has, size}
use Rattle.record_format.specs.rdb_types.declared.keys.Dbkey.{Dbkey}
use Rattle.record_format.specs.Values.{values_fields, IsValue}
use Rattle.record_format.specs.Dbkeys.{dbkey_fields}
use Rattle.index_node.specs.declared.entry.NodeEntry.{NodeEntry}
use Rattle.index_node.specs.declared.node.IndexNode.{IndexNode}
use Rattle.index_node.specs.Order.{entry_order}

abbrev pub child_fields : Option Dbkey → List Field
child_fields None = []
child_fields (Some child) = dbkey_fields child

-- the bytes of the child in an entry of a node of this level
abbrev pub child_bytes : ℕ → ℕ
child_bytes level = if nat_eq level 0 then 0 else 10

-- the length of a key, its values, the row, and the child that an inner node has there
abbrev pub entry_fields : NodeEntry → List Field
entry_fields e = number 1 (size (values_fields e.key)) ∷ (values_fields e.key ++ (dbkey_fields e.row ++ child_fields e.child))

abbrev pub node_fields : IndexNode → List Field
node_fields n = number 1 n.level ∷ number 2 (length n.entries) ∷ gap 1 ∷ flat_map entry_fields n.entries

-- an entry of a node of this level: at level 0, of the leaves, it has no child, and above it one
pub record IsEntry (level : ℕ) (e : NodeEntry) : Type 0 where
  pub key : All IsValue e.key
  pub short : size (values_fields e.key) ≤ 120
  pub child : IsSome e.child ↔ (1 ≤ level)

-- each entry is below the next
abbrev pub IsAscending : List NodeEntry → Type 0
IsAscending es = AllAdjacentBelow (λ a b. entry_order a b ≡ Less) es (length es)

pub record IsAllowedNode (n : IndexNode) : Type 0 where
  pub entries : All (IsEntry n.level) n.entries
  pub ascending : IsAscending n.entries

-- the bytes are the image of this node
pub record IsNode (bytes : List ℕ) (n : IndexNode) : Type 0 where
  pub fields : Has (node_fields n) bytes
  pub allowed : IsAllowedNode n
  pub small : length bytes ≤ 430
