-- What one step of a search tells.
use Rattle.std.specs.Prelude.{◌≡◌, ◌≢◌, ℕ, List, ◌++◌, Option, Some, None, option_map, Result, Ok, Err, ◌≤◌, suc, [], ◌∷◌, if◌then◌else◌}
use Rattle.rdb_types.specs.declared.keys.Dbkey.{Dbkey}
use Rattle.index_node.specs.declared.node.IndexNode.{IndexNode}
use Rattle.slot_fields.specs.Fields.{size}
use Rattle.std.specs.Ordering.{is_le}
use Rattle.index_node.specs.declared.entry.NodeEntry.{NodeEntry}
use Rattle.index_node.specs.Order.{entry_order}
use Rattle.index_node.specs.Node.{IsNode, IsAllowedNode, node_fields}
use Rattle.line_view.specs.declared.need.Need.TheVariants.{Line}
use Rattle.line_view.specs.Knowledge.{Knowledge}
use Rattle.sorted_index_laws.specs.Stop.{IndexStop}
use Rattle.line_view.specs.declared.stop.Stop.TheVariants.{Missing, Own, Bad, NoMemory}
use Rattle.sorted_index_laws.specs.Search.{first_unknown}

-- what is known of the line is that it is present and has the image of this node
abbrev pub IsKnownAs : Option (Option (List ℕ)) → IndexNode → Type 0
IsKnownAs (Some (Some bytes)) node = IsNode bytes node
IsKnownAs (Some None) node = ⊥
IsKnownAs None node = ⊥

-- reading the node of a line: it is known and such a node, or not known, or known and no such node
abbrev pub ReadsNode : Knowledge → Dbkey → (IndexNode → Type 0) → Result IndexNode IndexStop → Type 0
ReadsNode known at Allowed (Ok node) = IsKnownAs (known.line at) node × Allowed node
ReadsNode known at Allowed (Err (Missing need)) = (need ≡ Line at) × (known.line at ≡ None)
ReadsNode known at Allowed (Err (Own duplicate)) = ⊥
ReadsNode known at Allowed (Err (Bad key)) = (key ≡ at) × (known.line at ≢ None) × ((node : IndexNode) → IsKnownAs (known.line at) node → Allowed node → ⊥)
ReadsNode known at Allowed (Err NoMemory) = Unit {0}

-- A search below a node adds these rows to what was found, where it knows these lines.
abbrev pub Adds : Knowledge → List Dbkey → List Dbkey → List Dbkey → List Dbkey → Result Unit IndexStop → Type 0
Adds known lines rows old new (Ok done) = (new ≡ old ++ rows) × (first_unknown known lines ≡ None)
Adds known lines rows old new (Err (Missing need)) = option_map Line (first_unknown known lines) ≡ Some need
Adds known lines rows old new (Err (Own duplicate)) = ⊥
Adds known lines rows old new (Err (Bad key)) = ⊥
Adds known lines rows old new (Err NoMemory) = Unit {0}

-- a node that fits a line
abbrev pub IsLaid : IndexNode → Type 0
IsLaid node = IsAllowedNode node × (size (node_fields node) ≤ 430)

-- how many entries at the front are at or below the pair
abbrev pub count_up_to : NodeEntry → List NodeEntry → ℕ
count_up_to pair [] = 0
count_up_to pair (entry ∷ entries) = if is_le (entry_order entry pair) then suc (count_up_to pair entries) else 0

-- the place of the child that the pair belongs below
abbrev pub child_place : NodeEntry → List NodeEntry → ℕ
child_place pair [] = 0
child_place pair (first ∷ entries) = count_up_to pair entries
