-- The nodes of an index, gone over from its root.
use Rattle.std.specs.Prelude.{◌≡◌, ◌⊎◌, ◌+◌, ℕ, zero, suc, Bool, true, false, ◌&&◌, ◌==◌, List, [], ◌∷◌, ◌++◌, length, Option, Some, None, slice_get}
use Rattle.std.specs.List.{IsDistinct, flat_map, list_all, list_any}
use Rattle.std.specs.Ordering.{is_eq, is_lt, is_le}
use Rattle.std.specs.BTreeMap.{is_at}
use Rattle.std.specs.BTreeSet.{insert_key}
use Rattle.rdb_types.specs.declared.keys.Dbkey.{Dbkey}
use Rattle.rdb_types.specs.Order.{dbkey_order}
use Rattle.index_node.specs.declared.entry.NodeEntry.{NodeEntry}
use Rattle.index_node.specs.declared.node.IndexNode.{IndexNode}
use Rattle.index_node.specs.Order.{entry_order}
use Rattle.line_view.specs.Knowledge.{Knowledge, Lines, Agrees, line_in}
use Rattle.sorted_index_laws.specs.Inner.Steps.{IsKnownAs}
use Rattle.sorted_index_laws.specs.Tree.{Tree, Bears, place, node_of, pairs, places, Stands, IsIndex}
use Rattle.relation_rows.specs.Stored.{IsAreaKnown}
use Rattle.line_faults.specs.Found.{IsIn}
use Rattle.index_faults.specs.declared.walk.Walk.{Walk}

-- ---- between the entries of a node

abbrev pub are_from : Option NodeEntry → List NodeEntry → Bool
are_from None ps = true
are_from (Some low) ps = list_all (λ p. is_le (entry_order low p)) ps

abbrev pub are_below : Option NodeEntry → List NodeEntry → Bool
are_below None ps = true
are_below (Some high) ps = list_all (λ p. is_lt (entry_order p high)) ps

-- the first entry of a node bounds nothing
abbrev pub low_at : ℕ → List NodeEntry → Option NodeEntry
low_at zero entries = None
low_at (suc at) entries = slice_get entries (suc at)

-- the pairs below the child at a place stand between its entry and the next one
abbrev pub are_between : ℕ → List NodeEntry → List NodeEntry → Bool
are_between at entries ps = are_from (low_at at entries) ps && are_below (slice_get entries (at + 1)) ps

-- ---- one line

abbrev pub has_level : Option ℕ → IndexNode → Bool
has_level None node = true
has_level (Some level) node = node.level == level

-- The line is of the walk's area, wasn't reached before, and is known to be this node, of the level that is asked for. It is reached then.
pub record IsReached (known : Knowledge) (at : Dbkey) (level : Option ℕ) (node : IndexNode) (old new : Walk) : Type 0 where
  pub own : at.area ≡ old.area
  pub fresh : list_any (is_at (dbkey_order at)) old.reached.keys ≡ false
  pub reached : new.reached.keys ≡ insert_key dbkey_order old.reached.keys at
  pub bears : IsKnownAs (known.line at) node
  pub leveled : has_level level node ≡ true
  pub area : new.area ≡ old.area
  pub pairs_stay : new.pairs ≡ old.pairs
  pub faults_stay : new.faults ≡ old.faults

-- something of that isn't so
abbrev pub IsAmiss : Knowledge → Dbkey → Option ℕ → Walk → Type 0
IsAmiss known at level old = (node : IndexNode) → at.area ≡ old.area → list_any (is_at (dbkey_order at)) old.reached.keys ≡ false → IsKnownAs (known.line at) node → has_level level node ≡ true → ⊥

-- Then nothing is found, but the line may have been reached.
pub record IsNotFound (known : Knowledge) (at : Dbkey) (level : Option ℕ) (old new : Walk) : Type 0 where
  pub cause : IsAmiss known at level old
  pub area : new.area ≡ old.area
  pub pairs_stay : new.pairs ≡ old.pairs
  pub faults_stay : new.faults ≡ old.faults

-- And the line is at fault.
pub record IsMissed (known : Knowledge) (at : Dbkey) (level : Option ℕ) (old new : Walk) : Type 0 where
  pub cause : IsAmiss known at level old
  pub area : new.area ≡ old.area
  pub pairs_stay : new.pairs ≡ old.pairs
  pub fault : new.faults ≡ old.faults ++ at ∷ []

-- The child of this line is at fault where, with nothing at fault below it, its pairs don't stand between the entries beside it.
pub record IsJudged (at : Dbkey) (between : Bool) (faults : ℕ) (old new : Walk) : Type 0 where
  pub area : new.area ≡ old.area
  pub pairs_stay : new.pairs ≡ old.pairs
  pub reached_stay : new.reached.keys ≡ old.reached.keys
  pub fine : between ≡ true → new.faults ≡ old.faults
  pub bad : length old.faults ≡ faults → between ≡ false → new.faults ≡ old.faults ++ at ∷ []
  pub late : (length old.faults ≡ faults → ⊥) → new.faults ≡ old.faults

-- ---- lines that are reached

-- the lines are different ones and new, and they are reached beside the old ones
pub record Reaches (old new keys : List Dbkey) : Type 0 where
  pub distinct : IsDistinct (λ a b. is_eq (dbkey_order a b)) keys
  pub fresh : (key : Dbkey) → IsIn key keys → IsIn key old → ⊥
  pub kept : (key : Dbkey) → IsIn key old → IsIn key new
  pub added : (key : Dbkey) → IsIn key keys → IsIn key new

-- ---- what is below a node

-- the lines of the nodes below a node
abbrev pub places_below : (level : ℕ) → Tree level → List Dbkey
places_below zero tree = []
places_below (suc level) tree = flat_map (λ child. places level child.1) tree.entries

-- below a node of this level, which stands on this line, an index is in order: it has these pairs, and its lines were reached
pub record IsWhole (all : Lines) (area : ℕ) (at : Dbkey) (level : ℕ) (held : List NodeEntry) (old new : List Dbkey) : Type 0 where
  pub tree : Tree level
  pub placed : place level tree ≡ at
  pub stands : Stands all area level tree
  pub holds : held ≡ pairs level tree
  pub reaches : Reaches old new (places_below level tree)

-- different lines, of which none was reached
pub record AreNew (old keys : List Dbkey) : Type 0 where
  pub distinct : IsDistinct (λ a b. is_eq (dbkey_order a b)) keys
  pub fresh : (key : Dbkey) → IsIn key keys → IsIn key old → ⊥

-- nothing but these lines was reached
abbrev pub ReachesOnly : List Dbkey → List Dbkey → List Dbkey → Type 0
ReachesOnly old new keys = (key : Dbkey) → IsIn key new → IsIn key old ⊎ IsIn key keys

-- what is below a node in order was gone over: nothing is at fault, its pairs were found, and its lines alone were reached
pub record IsPassed (level : ℕ) (tree : Tree level) (more : List Dbkey) (held : List NodeEntry) (old new : List Dbkey) : Type 0 where
  pub none : more ≡ []
  pub holds : held ≡ pairs level tree
  pub only : ReachesOnly old new (places_below level tree)

-- What is below a node was gone over: faults and pairs were added. Where no fault was, an index is in order there; and where one is, no fault was.
pub record Walks (known : Knowledge) (node : IndexNode) (old new : Walk) : Type 0 where
  pub area : new.area ≡ old.area
  pub more : List Dbkey
  pub faults_are : new.faults ≡ old.faults ++ more
  pub held : List NodeEntry
  pub pairs_are : new.pairs ≡ old.pairs ++ held
  pub whole : more ≡ [] → (all : Lines) (at : Dbkey) → Agrees known all → Bears (line_in at all) node → at.area ≡ old.area → IsWhole all old.area at node.level held old.reached.keys new.reached.keys
  pub passed : IsAreaKnown known old.area → (all : Lines) → Agrees known all → (level : ℕ) (tree : Tree level) → node_of level tree ≡ node → Stands all old.area level tree → AreNew old.reached.keys (places_below level tree) → IsPassed level tree more held old.reached.keys new.reached.keys

-- ---- a whole index

-- the index of this root is in order in the map, with these pairs
pub record IsInOrderWith (all : Lines) (root : Dbkey) (held : List NodeEntry) : Type 0 where
  pub level : ℕ
  pub tree : Tree level
  pub index : IsIndex all root level tree
  pub holds : held ≡ pairs level tree
