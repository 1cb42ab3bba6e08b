-- What a change of an index leaves.
use Rattle.std.specs.Prelude.{◌≡◌, ℕ, zero, suc, Bool, false, true, not, ◌&&◌, ◌||◌, is_none, List, [], ◌∷◌, map, Some, None, option_map, Result, Ok, Err, if◌then◌else◌}
use Rattle.std.specs.Ordering.{is_lt, is_le, is_eq}
use Rattle.std.specs.List.{AllByRecursion, IsDistinct, filter, flat_map, list_any}
use Rattle.rdb_types.specs.declared.keys.Dbkey.{Dbkey}
use Rattle.rdb_types.specs.declared.values.Value.{Value}
use Rattle.rdb_types.specs.Order.{dbkey_order, row_order}
use Rattle.index_node.specs.declared.entry.NodeEntry.{NodeEntry}
use Rattle.index_node.specs.Order.{entry_order}
use Rattle.line_view.specs.declared.need.Need.TheVariants.{Line}
use Rattle.line_view.specs.Knowledge.{Knowledge, Lines}
use Rattle.line_view.specs.declared.writes.Write.{Write}
use Rattle.line_view.specs.Writes.{laid_all}
use Rattle.sorted_index_laws.specs.Stop.{IndexStop}
use Rattle.line_view.specs.declared.stop.Stop.TheVariants.{Missing, Own, Bad, NoMemory}
use Rattle.sorted_index_laws.specs.Tree.{Tree, place, pairs, places, IsIndex, IsFilled}
use Rattle.sorted_index_laws.specs.Search.{first_unknown}

-- ---- pairs

abbrev pub pair_of : List Value → Dbkey → NodeEntry
pair_of key row = record { key = key; row = row; child = None }

-- the pair put at its place among the pairs
abbrev pub with_pair : NodeEntry → List NodeEntry → List NodeEntry
with_pair pair [] = pair ∷ []
with_pair pair (p ∷ ps) = if is_lt (entry_order p pair) then p ∷ with_pair pair ps else pair ∷ p ∷ ps

-- the pairs without this one
abbrev pub without_pair : NodeEntry → List NodeEntry → List NodeEntry
without_pair pair = filter (λ p. not (is_eq (entry_order p pair)))

abbrev pub has_key : List Value → List NodeEntry → Bool
has_key key = list_any (λ p. is_eq (row_order p.key key))

-- a pair at or behind the next child's entry belongs further on
abbrev pub goes_on : NodeEntry → List NodeEntry → Bool
goes_on pair [] = false
goes_on pair (next ∷ entries) = is_le (entry_order next pair)

-- what is below the child that the pair belongs below
abbrev pub chosen : {X : Type 0} → NodeEntry → List (NodeEntry × X) → List X
chosen pair [] = []
chosen pair (child ∷ children) = if goes_on pair (map (λ c. c.0) children) then chosen pair children else child.1 ∷ []

-- the nodes that a change reads for this pair, from the root down
abbrev pub path_below : NodeEntry → (level : ℕ) → Tree level → List Dbkey
path_below pair zero tree = []
path_below pair (suc level) tree = flat_map (λ child. place level child ∷ path_below pair level child) (chosen pair tree.entries)

abbrev pub path : NodeEntry → (level : ℕ) → Tree level → List Dbkey
path pair level tree = place level tree ∷ path_below pair level tree

-- ---- lines

-- What writes leave of the index of this root, which had this tree: it is in order, with these pairs. The writes are on lines of its logical area alone, on each once. If each node but the root had an entry, so it is behind them.
pub record Leaves (lines : Lines) (root : Dbkey) (level_before : ℕ) (before : Tree level_before) (writes : List Write) (pairs_left : List NodeEntry) : Type 0 where
  pub level : ℕ
  pub tree : Tree level
  pub index : IsIndex (laid_all writes lines) root level tree
  pub pairs_are : pairs level tree ≡ pairs_left
  pub in_area : AllByRecursion (λ write. (write.key).area ≡ root.area) writes
  pub once : IsDistinct (λ a b. is_eq (dbkey_order a b)) (map (λ write. write.key) writes)
  pub filled : IsFilled level_before before → IsFilled level tree

abbrev pub has_line : List Dbkey → Dbkey → Bool
has_line keys key = list_any (λ k. is_eq (dbkey_order k key)) keys

abbrev pub is_erased : List Write → Dbkey → Bool
is_erased writes key = list_any (λ write. is_eq (dbkey_order write.key key) && is_none write.image) writes

-- each line of a node of the tree before is one of the tree behind, or is erased
abbrev pub ErasesOthers : (level_before : ℕ) → Tree level_before → (level : ℕ) → Tree level → List Write → Type 0
ErasesOthers level_before before level after writes = AllByRecursion (λ key. (has_line (places level after) key || is_erased writes key) ≡ true) (places level_before before)

-- A change that reads these lines, and writes no others: it leaves the index with these pairs, and no line of a node that is left out, where it knows all that it reads, and else names the first that it lacks.
abbrev pub Changes : Knowledge → Lines → Dbkey → (level : ℕ) → Tree level → List Dbkey → List NodeEntry → Result (List Write) IndexStop → Type 0
Changes known lines root level tree read pairs_left (Ok writes) = ((left : Leaves lines root level tree writes pairs_left) × ErasesOthers level tree left.level left.tree writes) × (first_unknown known read ≡ None) × AllByRecursion (λ write. has_line read write.key ≡ true) writes
Changes known lines root level tree read pairs_left (Err (Missing need)) = option_map Line (first_unknown known read) ≡ Some need
Changes known lines root level tree read pairs_left (Err (Own duplicate)) = ⊥
Changes known lines root level tree read pairs_left (Err (Bad key)) = ⊥
Changes known lines root level tree read pairs_left (Err NoMemory) = Unit {0}
