-- A pair put into an index: what is read and taken for it, and what is left.
use Rattle.std.specs.Prelude.{◌≡◌, ◌≢◌, ◌≤◌, ◌<◌, ◌+◌, ◌⊎◌, ℕ, zero, suc, Bool, true, false, ◌&&◌, List, [], ◌++◌, Some, None, Result, Ok, Err, if◌then◌else◌}
use Rattle.std.specs.Ordering.{is_eq}
use Rattle.std.specs.List.{All, AllByRecursion}
use Rattle.slot_fields.specs.Fields.{size}
use Rattle.index_node.specs.record_format.Values.{values_fields, IsStorable}
use Rattle.rdb_types.specs.declared.keys.Dbkey.{Dbkey}
use Rattle.rdb_types.specs.declared.values.Value.{Value}
use Rattle.index_node.specs.declared.entry.NodeEntry.{NodeEntry}
use Rattle.index_node.specs.Order.{entry_order}
use Rattle.index_node.specs.Node.{node_fields}
use Rattle.line_view.specs.declared.need.Need.TheVariants.{Line, Area, Room}
use Rattle.line_view.specs.declared.need.Room.{Room as Place}
use Rattle.line_view.specs.Knowledge.{Knowledge, Lines}
use Rattle.line_view.specs.declared.writes.Write.{Write}
use Rattle.sorted_index_laws.specs.Stop.{IndexStop}
use Rattle.line_view.specs.declared.stop.Stop.TheVariants.{Missing, Own, Bad, NoMemory}
use Rattle.sorted_index_laws.specs.Keys.{only}
use Rattle.sorted_index_laws.specs.Tree.{Tree, pairs}
use Rattle.sorted_index_laws.specs.Search.{first_unknown, reads}
use Rattle.sorted_index_laws.specs.Changes.{with_pair, has_key, has_line, chosen, path, Leaves}

-- ---- what is asked for

-- a key that fits an entry: its values may be laid out, and take 120 bytes at most
pub record IsKey (key : List Value) : Type 0 where
  pub storable : All IsStorable key
  pub short : size (values_fields key) ≤ 120

-- the pair isn't among these
abbrev pub IsNew : NodeEntry → List NodeEntry → Type 0
IsNew pair = AllByRecursion (λ p. is_eq (entry_order p pair) ≡ false)

-- the nth line that may be taken for a node
abbrev pub room_at : ℕ → ℕ → Place
room_at area nth = record { area = area; class = 440; nth = nth }

-- the lines where the key is looked for: those of a search, if the index is unique
abbrev pub looked_at : Bool → List Value → (level : ℕ) → Tree level → List Dbkey
looked_at unique key level tree = if unique then reads (only key) level tree else []

-- the lines that are read: for a unique index those where the key may stand, and then the way to the pair
abbrev pub lines_read : Bool → NodeEntry → (level : ℕ) → Tree level → List Dbkey
lines_read unique pair level tree = looked_at unique pair.key level tree ++ path pair level tree

-- The leaf that the pair belongs in would be too long for a line with it, or there is none.
abbrev pub IsFull : NodeEntry → (level : ℕ) → Tree level → Type 0
IsFull pair zero tree = 430 < size (node_fields (record { level = zero; entries = with_pair pair tree.entries }))
IsFull pair (suc level) tree = AllByRecursion (IsFull pair level) (chosen pair tree.entries)

-- the rooms of these numbers are known
abbrev pub AreTaken : Knowledge → ℕ → ℕ → ℕ → Type 0
AreTaken known area from to = (n : ℕ) → from ≤ n → n < to → known.room (room_at area n) ≢ None

-- A room that is lacked is the first of its area that isn't known.
abbrev pub LacksRoom : Knowledge → ℕ → ℕ → Place → Type 0
LacksRoom known area from room = (nth : ℕ) × (from ≤ nth) × (room ≡ room_at area nth) × (known.room room ≡ None) × AreTaken known area from nth

-- a line that is written: that of a node on the way to the pair, or a known room, which is taken only where the leaf is full
abbrev pub IsWrittenFor : Knowledge → ℕ → NodeEntry → (level : ℕ) → Tree level → Dbkey → Type 0
IsWrittenFor known area pair level tree key = (has_line (path pair level tree) key ≡ true) ⊎ (((nth : ℕ) × (known.room (room_at area nth) ≡ Some key)) × IsFull pair level tree)

-- A pair that isn't in the index is put into it. The index is left with it, by writes on the way to it and on rooms; Duplicate comes where the index is unique and has its key; a line or a room that is lacked is the next that is read or taken, and a room is taken only where the leaf is full; Bad comes where a root of level 255 would have to be split.
abbrev pub Inserts : Knowledge → Lines → Dbkey → NodeEntry → Bool → (level : ℕ) → Tree level → Result (List Write) IndexStop → Type 0
Inserts known lines root pair unique level tree (Ok writes) = Leaves lines root level tree writes (with_pair pair (pairs level tree)) × (first_unknown known (lines_read unique pair level tree) ≡ None) × ((unique && has_key pair.key (pairs level tree)) ≡ false)
    × AllByRecursion (λ write. IsWrittenFor known root.area pair level tree write.key) writes
Inserts known lines root pair unique level tree (Err (Missing (Line key))) = first_unknown known (lines_read unique pair level tree) ≡ Some key
Inserts known lines root pair unique level tree (Err (Missing (Area area))) = ⊥
Inserts known lines root pair unique level tree (Err (Missing (Room room))) = LacksRoom known root.area 0 room × (first_unknown known (lines_read unique pair level tree) ≡ None) × ((unique && has_key pair.key (pairs level tree)) ≡ false) × IsFull pair level tree
Inserts known lines root pair unique level tree (Err (Own duplicate)) = (unique && has_key pair.key (pairs level tree)) ≡ true
Inserts known lines root pair unique level tree (Err (Bad key)) = (key ≡ root) × (level ≡ 255) × ((unique && has_key pair.key (pairs level tree)) ≡ false) × IsFull pair level tree
Inserts known lines root pair unique level tree (Err NoMemory) = Unit {0}
