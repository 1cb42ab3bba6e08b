-- The pair of a row taken out of an index, or put into one, over the view of a statement.
use Rattle.std.specs.Prelude.{◌≡◌, ◌⊎◌, ℕ, Bool, true, false, ◌&&◌, List, Option, Result}
use Rattle.rdb_types.specs.declared.keys.Dbkey.{Dbkey}
use Rattle.rdb_meaning.specs.Contents.{Row, key_of}
use Rattle.line_view.specs.declared.need.Need.TheVariants as needs
use Rattle.line_view.specs.declared.need.Room.{Room}
use Rattle.line_view.specs.declared.stop.Stop.TheVariants.{Missing, Bad, NoMemory, Own}
use Rattle.line_view.specs.declared.writes.Write.{Write}
use Rattle.line_view.specs.Knowledge.{Lines}
use Rattle.line_view.specs.Held.{Held, knows}
use Rattle.line_view.specs.Stops.{Answers, Lacks}
use Rattle.line_view.specs.Writes.{laid_all}
use Rattle.catalog_lines.specs.declared.line.IndexLine.{IndexLine}
use Rattle.index_node.specs.declared.entry.NodeEntry.{NodeEntry}
use Rattle.sorted_index_laws.specs.Stop.{IndexStop}
use Rattle.sorted_index_laws.specs.Tree.{Tree, pairs, IsIndex}
use Rattle.sorted_index_laws.specs.Changes.{pair_of, with_pair, without_pair, has_key, Leaves}
use Rattle.sorted_index_laws.specs.Insertion.{IsKey, IsNew}
use Rattle.statement_view.specs.Over.{Over, Stands, laid_over, all_rooms, AreRoomsKnown}
use Rattle.statement_view.specs.Areas.{IsRoomOf}
use Rattle.row_writes.specs.declared.stop.PairRefusal.{PairRefusal}
use Rattle.row_writes.specs.declared.stop.PairRefusal.TheVariants.{Duplicate, LongKey, Full}
use Rattle.row_writes.specs.Stop.{PairStop}

-- ---- stops, by what is known

-- in place of a room of the view one of its area is named that isn't known, if there is one
abbrev pub TellsRoom : Held → Room → PairStop → Type 0
TellsRoom base room (Missing need) = Lacks (knows base) need × IsRoomOf room.area need
TellsRoom base room (Own refusal) = (refusal ≡ Full) × AreRoomsKnown (knows base) room.area room.class all_rooms
TellsRoom base room (Bad key) = ⊥
TellsRoom base room NoMemory = ⊥

abbrev pub Tells : Held → IndexStop → PairStop → Type 0
Tells base (Missing (needs.Line key)) told = told ≡ Missing (needs.Line key)
Tells base (Missing (needs.Area area)) told = told ≡ Missing (needs.Area area)
Tells base (Missing (needs.Room room)) told = TellsRoom base room told
Tells base (Bad key) told = told ≡ Bad key
Tells base NoMemory told = told ≡ NoMemory
Tells base (Own duplicate) told = told ≡ Own Duplicate

-- ---- an index by its tree

-- The view has more writes, which leave the index of this root with these pairs.
pub record Turned (old new : Over) (first : Lines) (root : Dbkey) (level : ℕ) (tree : Tree level) (left : List NodeEntry) : Type 0 where
  pub stands : Stands new first
  pub writes : List Write
  pub laid : laid_over new.lines first ≡ laid_all writes (laid_over old.lines first)
  pub leaves : Leaves (laid_over old.lines first) root level tree writes left

-- Behind some writes over the map of the start the tree of the index of this root has the highest level.
pub record IsTallBehind (first : Lines) (root : Dbkey) : Type 0 where
  pub written : List (Dbkey × Option (List ℕ))
  pub level : ℕ
  pub tree : Tree level
  pub index : IsIndex (laid_over written first) root level tree
  pub highest : level ≡ 255

-- all numbers of rooms of the index are known, or its tree has the highest level
abbrev pub CanNotGrow : Held → Lines → IndexLine → Type 0
CanNotGrow base first x = AreRoomsKnown (knows base) x.root.area 440 all_rooms ⊎ IsTallBehind first x.root

abbrev pub PairTaken : Over → Over → IndexLine → Row → Dbkey → Lines → (level : ℕ) → Tree level → Result (Unit {0}) PairStop → Type 0
PairTaken old new x row key first level tree =
    Answers (λ u. Turned old new first x.root level tree (without_pair (pair_of (key_of x.fields row) key) (pairs level tree))) (Lacks (knows old.base)) (λ at. ⊥) (λ refusal. ⊥)

abbrev pub TakesPair : Over → Over → IndexLine → Row → Dbkey → Result (Unit {0}) PairStop → Type 0
TakesPair old new x row key result = (first : Lines) (level : ℕ) (tree : Tree level) → Stands old first → IsIndex (laid_over old.lines first) x.root level tree → PairTaken old new x row key first level tree result

-- whether the index is unique and has the key
abbrev pub has_taken : IndexLine → Row → List NodeEntry → Bool
has_taken x row held = x.unique && has_key (key_of x.fields row) held

-- what it says that an index doesn't take a pair: its key is taken, or is none for an index, or the index can't grow
abbrev pub PairRefused : Type 0 → Type 0 → Type 0 → PairRefusal → Type 0
PairRefused IsTaken IsLong IsFull Duplicate = IsTaken
PairRefused IsTaken IsLong IsFull LongKey = IsLong
PairRefused IsTaken IsLong IsFull Full = IsFull

-- the key of the row can't be that of an entry
abbrev pub IsLongKey : IndexLine → Row → Type 0
IsLongKey x row = IsKey (key_of x.fields row) → ⊥

abbrev pub PairAdded : Over → Over → IndexLine → Row → Dbkey → Lines → (level : ℕ) → Tree level → Result (Unit {0}) PairStop → Type 0
PairAdded old new x row key first level tree =
    Answers (λ u. Turned old new first x.root level tree (with_pair (pair_of (key_of x.fields row) key) (pairs level tree)) × (has_taken x row (pairs level tree) ≡ false)) (Lacks (knows old.base)) (λ at. ⊥) (PairRefused (has_taken x row (pairs level tree) ≡ true) (IsLongKey x row) (CanNotGrow old.base first x))

abbrev pub AddsPair : Over → Over → IndexLine → Row → Dbkey → Result (Unit {0}) PairStop → Type 0
AddsPair old new x row key result = (first : Lines) (level : ℕ) (tree : Tree level) → Stands old first → IsIndex (laid_over old.lines first) x.root level tree → IsNew (pair_of (key_of x.fields row) key) (pairs level tree) → PairAdded old new x row key first level tree result
