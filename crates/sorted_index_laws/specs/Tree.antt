-- The tree of a sorted index in a full map of lines, and the pairs that it holds.
use Rattle.std.specs.Prelude.{◌≡◌, ◌≢◌, ℕ, zero, suc, Bool, true, false, List, [], ◌∷◌, map, Option, Some, None}
use Rattle.std.specs.declared.cmp.Ordering.TheVariants.{Less, Greater}
use Rattle.std.specs.Ordering.{is_eq}
use Rattle.std.specs.List.{AllByRecursion, flat_map, IsDistinct}
use Rattle.rdb_types.specs.declared.keys.Dbkey.{Dbkey}
use Rattle.rdb_types.specs.Order.{dbkey_order}
use Rattle.index_node.specs.declared.entry.NodeEntry.{NodeEntry}
use Rattle.index_node.specs.declared.node.IndexNode.{IndexNode}
use Rattle.index_node.specs.Order.{entry_order}
use Rattle.index_node.specs.Node.{IsNode}
use Rattle.line_view.specs.Knowledge.{Lines, line_in}

-- a line, and what stands on it
pub record Placed (X : Type 0) : Type 0 where
  pub at : Dbkey
  pub entries : List X

-- the tree below a node of a level: a leaf has its entries, and a node above has an entry and a tree for each child
abbrev pub Tree : ℕ → Type 0
Tree zero = Placed NodeEntry
Tree (suc level) = Placed (NodeEntry × Tree level)

abbrev pub place : (level : ℕ) → Tree level → Dbkey
place zero tree = tree.at
place (suc level) tree = tree.at

abbrev pub node_of : (level : ℕ) → Tree level → IndexNode
node_of zero tree = record { level = zero; entries = tree.entries }
node_of (suc level) tree = record { level = suc level; entries = map (λ child. child.0) tree.entries }

-- the pairs of keys and rows that the tree holds: the entries of its leaves
abbrev pub pairs : (level : ℕ) → Tree level → List NodeEntry
pairs zero tree = tree.entries
pairs (suc level) tree = flat_map (λ child. pairs level child.1) tree.entries

-- the lines of its nodes
abbrev pub places : (level : ℕ) → Tree level → List Dbkey
places zero tree = tree.at ∷ []
places (suc level) tree = tree.at ∷ flat_map (λ child. places level child.1) tree.entries

-- a line that is present has the image of this node
abbrev pub Bears : Option (List ℕ) → IndexNode → Type 0
Bears (Some bytes) node = IsNode bytes node
Bears None node = ⊥

-- each pair below a child is below the next child's entry, and each below the next child is at or above that
abbrev pub IsPartedFrom : (level : ℕ) → NodeEntry × Tree level → List (NodeEntry × Tree level) → Type 0
IsPartedFrom level child [] = Unit {0}
IsPartedFrom level child (next ∷ children) = AllByRecursion (λ pair. entry_order pair next.0 ≡ Less) (pairs level child.1) × AllByRecursion (λ pair. entry_order next.0 pair ≢ Greater) (pairs level next.1)

abbrev pub AreParted : (level : ℕ) → List (NodeEntry × Tree level) → Type 0
AreParted level [] = Unit {0}
AreParted level (child ∷ children) = IsPartedFrom level child children × AreParted level children

-- the nodes of the tree stand in the map on lines of this logical area, the children at one level less than their node
abbrev pub Stands : Lines → ℕ → (level : ℕ) → Tree level → Type 0
Stands lines area zero tree = ((tree.at).area ≡ area) × Bears (line_in tree.at lines) (node_of zero tree)
Stands lines area (suc level) tree = ((tree.at).area ≡ area) × Bears (line_in tree.at lines) (node_of (suc level) tree)
    × AllByRecursion (λ child. ((child.0).child ≡ Some (place level child.1)) × Stands lines area level child.1) tree.entries × AreParted level tree.entries

-- the index of this root is in order in the map, and this is its tree: each node is reached once
pub record IsIndex (lines : Lines) (root : Dbkey) (level : ℕ) (tree : Tree level) : Type 0 where
  pub rooted : place level tree ≡ root
  pub stands : Stands lines root.area level tree
  pub once : IsDistinct (λ a b. is_eq (dbkey_order a b)) (places level tree)

-- ---- nodes without entries

abbrev pub is_empty : {X : Type 0} → List X → Bool
is_empty [] = true
is_empty (x ∷ xs) = false

abbrev pub has_nothing : (level : ℕ) → Tree level → Bool
has_nothing zero tree = is_empty tree.entries
has_nothing (suc level) tree = is_empty tree.entries

-- each node below this one has an entry
abbrev pub IsFilled : (level : ℕ) → Tree level → Type 0
IsFilled zero tree = Unit {0}
IsFilled (suc level) tree = AllByRecursion (λ child. (has_nothing level child.1 ≡ false) × IsFilled level child.1) tree.entries
