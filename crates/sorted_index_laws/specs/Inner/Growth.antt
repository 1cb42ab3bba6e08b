-- The nodes that a pair put in changes, step by step.
use Rattle.std.specs.Prelude.{◌≡◌, ◌≤◌, ◌<◌, ◌+◌, ◌⊎◌, ℕ, zero, suc, Bool, true, false, ◌&&◌, List, [], ◌∷◌, ◌++◌, drop, map, Some, None, option_map, Result, Ok, Err, if◌then◌else◌}
use Rattle.std.specs.Ordering.{is_lt, is_le, is_eq}
use Rattle.std.specs.List.{All, AllByRecursion, IsDistinct, flat_map, list_any}
use Rattle.slot_fields.specs.Fields.{size}
use Rattle.index_node.specs.record_format.Values.{values_fields, IsValue}
use Rattle.rdb_types.specs.declared.keys.Dbkey.{Dbkey}
use Rattle.rdb_types.specs.declared.values.Value.{Value}
use Rattle.rdb_types.specs.Order.{dbkey_order}
use Rattle.index_node.specs.declared.entry.NodeEntry.{NodeEntry}
use Rattle.index_node.specs.declared.node.IndexNode.{IndexNode}
use Rattle.index_node.specs.Order.{entry_order}
use Rattle.index_node.specs.Node.{IsNode, IsAllowedNode, node_fields}
use Rattle.line_view.specs.declared.need.Need.TheVariants.{Line, Area, Room}
use Rattle.line_view.specs.Knowledge.{Knowledge, Lines}
use Rattle.line_view.specs.declared.writes.Write.{Write}
use Rattle.line_view.specs.Writes.{laid_all}
use Rattle.sorted_index_laws.specs.Stop.{IndexStop}
use Rattle.line_view.specs.declared.stop.Stop.TheVariants.{Missing, Own, Bad, NoMemory}
use Rattle.sorted_index_laws.specs.Tree.{Tree, place, node_of, pairs, places, AreParted, Stands, IsFilled}
use Rattle.sorted_index_laws.specs.Search.{first_unknown}
use Rattle.sorted_index_laws.specs.Changes.{with_pair, has_key, goes_on, path_below}
use Rattle.sorted_index_laws.specs.Insertion.{room_at, looked_at, IsFull, AreTaken, LacksRoom}

-- a key that fits an entry, with numbers of 64 bits
pub record IsNodeKey (key : List Value) : Type 0 where
  pub values : All IsValue key
  pub short : size (values_fields key) ≤ 120

-- Looking whether the index is unique and has the key.
abbrev pub Looks : Knowledge → Bool → List Value → (level : ℕ) → Tree level → Result Bool IndexStop → Type 0
Looks known unique key level tree (Ok found) = (found ≡ (unique && has_key key (pairs level tree))) × (first_unknown known (looked_at unique key level tree) ≡ None)
Looks known unique key level tree (Err (Missing need)) = option_map Line (first_unknown known (looked_at unique key level tree)) ≡ Some need
Looks known unique key level tree (Err (Own duplicate)) = ⊥
Looks known unique key level tree (Err (Bad bad)) = ⊥
Looks known unique key level tree (Err NoMemory) = Unit {0}

-- ---- the entries of nodes

-- how many entries at the front are below the pair
abbrev pub count_below : NodeEntry → List NodeEntry → ℕ
count_below pair [] = 0
count_below pair (entry ∷ entries) = if is_lt (entry_order entry pair) then suc (count_below pair entries) else 0

-- the entries with this pair, or as they are where it is among them
abbrev pub with_new : NodeEntry → List NodeEntry → List NodeEntry
with_new pair entries = if list_any (λ p. is_eq (entry_order p pair)) entries then entries else with_pair pair entries

-- a node that fits a line but for one entry
abbrev pub IsGrown : IndexNode → Type 0
IsGrown node = IsAllowedNode node × (size (node_fields node) ≤ 571)

-- the entry of a child, with the bound of this entry or with none
abbrev pub bound : NodeEntry → Dbkey → NodeEntry
bound entry child = record { key = entry.key; row = entry.row; child = Some child }

abbrev pub unbound : NodeEntry → Dbkey → NodeEntry
unbound entry child = record { key = []; row = entry.row; child = Some child }

-- the entries, where the first is exchanged if that is the place
abbrev pub lowered : ℕ → NodeEntry → List NodeEntry → List NodeEntry
lowered zero first [] = []
lowered zero first (entry ∷ entries) = first ∷ entries
lowered (suc at) first entries = entries

-- an entry is at or below that of the child in front of these, which bounds it unless it is its node's first
abbrev pub is_up_to_own : ℕ → NodeEntry → List NodeEntry → Bool
is_up_to_own zero entry entries = false
is_up_to_own (suc at) entry [] = false
is_up_to_own (suc at) entry (own ∷ entries) = is_le (entry_order entry own)

-- a node in two halves, which begin with these entries
pub record IsHalved (grown lower upper : IndexNode) (low high : NodeEntry) : Type 0 where
  pub lower_level : lower.level ≡ grown.level
  pub upper_level : upper.level ≡ grown.level
  pub entries : grown.entries ≡ lower.entries ++ upper.entries
  pub lows : (rest : List NodeEntry) × (lower.entries ≡ low ∷ rest)
  pub highs : (rest : List NodeEntry) × (upper.entries ≡ high ∷ rest)

-- What is left of a child's node: all of it, or a half where by the entries beside it the other can hold no pair.
pub data IsKept (entries : List NodeEntry) (at : ℕ) (grown left : IndexNode) : Type 0 where
  whole : left ≡ grown → IsKept entries at grown left
  lower : (upper : IndexNode) (low high : NodeEntry) → IsHalved grown left upper low high → goes_on high (drop (at + 1) entries) ≡ true → IsKept entries at grown left
  upper : (lower : IndexNode) (low high : NodeEntry) → IsHalved grown lower left low high → is_up_to_own at high (drop at entries) ≡ true → IsKept entries at grown left

-- ---- the steps

-- what holds of these lines, and of the rooms of these numbers, holds of those
abbrev pub Among : Knowledge → ℕ → ℕ → ℕ → List Dbkey → List Dbkey → Type 0
Among known area from to old new = (q : Dbkey → Bool) → AllByRecursion (λ k. q k ≡ true) old → ((n : ℕ) (k : Dbkey) → from ≤ n → n < to → known.room (room_at area n) ≡ Some k → q k ≡ true) → AllByRecursion (λ k. q k ≡ true) new

-- what is below a node stands in the map
abbrev pub StandBelow : Lines → ℕ → (level : ℕ) → Tree level → Type 0
StandBelow lines area zero tree = Unit {0}
StandBelow lines area (suc level) tree = AllByRecursion (λ child. ((child.0).child ≡ Some (place level child.1)) × Stands lines area level child.1) tree.entries × AreParted level tree.entries

abbrev pub places_below : (level : ℕ) → Tree level → List Dbkey
places_below zero tree = []
places_below (suc level) tree = flat_map (λ child. places level child.1) tree.entries

-- The tree below a node with the pair: its node, and the lines below it, which were there or are rooms.
pub record Grows (known : Knowledge) (all : Lines) (area : ℕ) (pair : NodeEntry) (level : ℕ) (tree : Tree level) (from to : ℕ) (old new : List Write) (grown : IndexNode) : Type 0 where
  pub after : Tree level
  pub counted : from ≤ to
  pub node : node_of level after ≡ grown
  pub same : place level after ≡ place level tree
  pub with_it : pairs level after ≡ with_pair pair (pairs level tree)
  pub writes : List Write
  pub behind : new ≡ old ++ writes
  pub below : StandBelow (laid_all writes all) area level after
  pub once : IsDistinct (λ a b. is_eq (dbkey_order a b)) (places_below level after)
  pub places : Among known area from to (places_below level tree) (places_below level after)
  pub written : Among known area from to (places_below level tree) (map (λ write. write.key) writes)
  pub on_way : Among known area from to (path_below pair level tree) (map (λ write. write.key) writes)
  pub written_once : IsDistinct (λ a b. is_eq (dbkey_order a b)) (map (λ write. write.key) writes)
  pub rooms_full : from < to → IsFull pair level tree
  pub full : 430 < size (node_fields grown) → IsFull pair level tree
  pub filled : IsFilled level tree → IsFilled level after

-- Putting a pair in below a node, where rooms from this number on may be taken.
abbrev pub PutsIn : Knowledge → Lines → ℕ → NodeEntry → (level : ℕ) → Tree level → ℕ → ℕ → List Write → List Write → Result IndexNode IndexStop → Type 0
PutsIn known all area pair level tree from to old new (Ok grown) = Grows known all area pair level tree from to old new grown × (first_unknown known (path_below pair level tree) ≡ None) × AreTaken known area from to
PutsIn known all area pair level tree from to old new (Err (Missing (Line key))) = first_unknown known (path_below pair level tree) ≡ Some key
PutsIn known all area pair level tree from to old new (Err (Missing (Area a))) = ⊥
PutsIn known all area pair level tree from to old new (Err (Missing (Room room))) = LacksRoom known area from room × (first_unknown known (path_below pair level tree) ≡ None) × IsFull pair level tree
PutsIn known all area pair level tree from to old new (Err (Own duplicate)) = ⊥
PutsIn known all area pair level tree from to old new (Err (Bad key)) = ⊥
PutsIn known all area pair level tree from to old new (Err NoMemory) = Unit {0}

-- A child's node is written on its line, or in two halves on that and a room.
pub record WritesOne (entries : List NodeEntry) (at : ℕ) (child : Dbkey) (grown : IndexNode) (from to : ℕ) (old new : List Write) (after : List NodeEntry) : Type 0 where
  pub left : IndexNode
  pub image : List ℕ
  pub kept : IsKept entries at grown left
  pub bears : IsNode image left
  pub writes : new ≡ old ++ record { key = child; image = Some image } ∷ []
  pub rooms : to ≡ from
  pub entries_are : after ≡ entries

pub record WritesTwo (known : Knowledge) (area : ℕ) (entries : List NodeEntry) (at : ℕ) (child : Dbkey) (grown : IndexNode) (from to : ℕ) (old new : List Write) (after : List NodeEntry) : Type 0 where
  pub lower : IndexNode
  pub upper : IndexNode
  pub low : NodeEntry
  pub high : NodeEntry
  pub halved : IsHalved grown lower upper low high
  pub past_own : is_up_to_own at high (drop at entries) ≡ false
  pub before_next : goes_on high (drop (at + 1) entries) ≡ false
  pub room : Dbkey
  pub is_room : known.room (room_at area from) ≡ Some room
  pub lower_image : List ℕ
  pub upper_image : List ℕ
  pub lower_bears : IsNode lower_image lower
  pub upper_bears : IsNode upper_image upper
  pub writes : new ≡ old ++ record { key = child; image = Some lower_image } ∷ record { key = room; image = Some upper_image } ∷ []
  pub rooms : to ≡ from + 1
  pub long : 430 < size (node_fields grown)
  pub entries_are : after ≡ with_pair (bound high room) (lowered at (unbound low child) entries)

abbrev pub WritesChild : Knowledge → ℕ → List NodeEntry → ℕ → Dbkey → IndexNode → ℕ → ℕ → List Write → List Write → Result (List NodeEntry) IndexStop → Type 0
WritesChild known area entries at child grown from to old new (Ok after) = WritesOne entries at child grown from to old new after ⊎ WritesTwo known area entries at child grown from to old new after
WritesChild known area entries at child grown from to old new (Err (Missing (Line key))) = ⊥
WritesChild known area entries at child grown from to old new (Err (Missing (Area a))) = ⊥
WritesChild known area entries at child grown from to old new (Err (Missing (Room room))) = (room ≡ room_at area from) × (known.room room ≡ None) × (430 < size (node_fields grown))
WritesChild known area entries at child grown from to old new (Err (Own duplicate)) = ⊥
WritesChild known area entries at child grown from to old new (Err (Bad key)) = ⊥
WritesChild known area entries at child grown from to old new (Err NoMemory) = Unit {0}

-- A root is written on its line, or above its halves on two rooms.
pub record WritesTop (known : Knowledge) (area : ℕ) (root : Dbkey) (grown : IndexNode) (from : ℕ) (old new : List Write) : Type 0 where
  pub lower : IndexNode
  pub upper : IndexNode
  pub low : NodeEntry
  pub high : NodeEntry
  pub halved : IsHalved grown lower upper low high
  pub lower_at : Dbkey
  pub upper_at : Dbkey
  pub is_lower : known.room (room_at area from) ≡ Some lower_at
  pub is_upper : known.room (room_at area (from + 1)) ≡ Some upper_at
  pub lower_image : List ℕ
  pub upper_image : List ℕ
  pub image : List ℕ
  pub lower_bears : IsNode lower_image lower
  pub upper_bears : IsNode upper_image upper
  pub bears : IsNode image (record { level = grown.level + 1; entries = unbound low lower_at ∷ bound high upper_at ∷ [] })
  pub long : 430 < size (node_fields grown)
  pub writes : new ≡ old ++ record { key = lower_at; image = Some lower_image } ∷ record { key = upper_at; image = Some upper_image } ∷ record { key = root; image = Some image } ∷ []

abbrev pub WritesRoot : Knowledge → ℕ → Dbkey → IndexNode → ℕ → List Write → List Write → Result Unit IndexStop → Type 0
WritesRoot known area root grown from old new (Ok done) = ((image : List ℕ) × IsNode image grown × (new ≡ old ++ record { key = root; image = Some image } ∷ [])) ⊎ WritesTop known area root grown from old new
WritesRoot known area root grown from old new (Err (Missing (Line key))) = ⊥
WritesRoot known area root grown from old new (Err (Missing (Area a))) = ⊥
WritesRoot known area root grown from old new (Err (Missing (Room room))) = LacksRoom known area from room × (430 < size (node_fields grown))
WritesRoot known area root grown from old new (Err (Own duplicate)) = ⊥
WritesRoot known area root grown from old new (Err (Bad key)) = (key ≡ root) × (grown.level ≡ 255) × (430 < size (node_fields grown))
WritesRoot known area root grown from old new (Err NoMemory) = Unit {0}
