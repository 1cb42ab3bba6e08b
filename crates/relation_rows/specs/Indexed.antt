-- An index of a relation's rows.
use Rattle.std.specs.Prelude.{◌≡◌, ℕ, ◌<◌, List, [], ◌∷◌, length}
use Rattle.std.specs.List.{AllByRecursion}
use Rattle.rdb_types.specs.declared.keys.Dbkey.{Dbkey}
use Rattle.rdb_meaning.specs.Contents.{Row, key_of}
use Rattle.sorted_index_laws.specs.line_view.Knowledge.{Lines}
use Rattle.sorted_index_laws.specs.index_node.declared.entry.NodeEntry.{NodeEntry}
use Rattle.sorted_index_laws.specs.Tree.{Tree, pairs, IsIndex}
use Rattle.sorted_index_laws.specs.Changes.{pair_of, with_pair}

-- a pair for each row, of its key and its Dbkey, in the order of the pairs
abbrev pub pairs_of : List ℕ → List (Dbkey × Row) → List NodeEntry
pairs_of positions [] = []
pairs_of positions (e ∷ es) = with_pair (pair_of (key_of positions e.1) e.0) (pairs_of positions es)

-- The index of this root is in order in the map, and holds one pair for each of the rows, of the values at these positions, and no more.
pub record IsIndexOf (all : Lines) (root : Dbkey) (positions : List ℕ) (rows : List (Dbkey × Row)) : Type 0 where
  pub level : ℕ
  pub tree : Tree level
  pub is : IsIndex all root level tree
  pub holds : pairs level tree ≡ pairs_of positions rows

-- the row has a value at each of these positions
abbrev pub HasPositions : List ℕ → Row → Type 0
HasPositions positions row = AllByRecursion (λ p. p < length row) positions
