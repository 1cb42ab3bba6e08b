-- The work on the pair of a row keeps to the area of its index.
use Rattle.std.proofs.Common.{◌≡◌, ◌≢◌, ℕ, true, List, [], ◌∷◌, Some, sym, ap, subst, ◌∙◌}
use Rattle.std.specs.Prelude.{Result, Ok, Err}
use Rattle.std.specs.List.{AllByRecursion}
use Rattle.rdb_types.specs.declared.keys.Dbkey.{Dbkey}
use Rattle.rdb_types.specs.declared.values.Value.{Value}
use Rattle.rdb_meaning.specs.Contents.{Row, key_of}
use Rattle.line_view.specs.declared.need.Need.TheVariants as needs
use Rattle.line_view.specs.declared.need.Room.{Room}
use Rattle.line_view.specs.declared.stop.Stop.{Stop}
use Rattle.line_view.specs.declared.stop.Stop.TheVariants.{Missing, Bad, NoMemory, Own}
use Rattle.line_view.specs.declared.writes.Write.{Write}
use Rattle.line_view.specs.Knowledge.{Knowledge, Lines}
use Rattle.line_view.specs.Held.{Held}
use Rattle.catalog_lines.specs.declared.line.IndexLine.{IndexLine}
use Rattle.index_node.specs.declared.entry.NodeEntry.{NodeEntry}
use Rattle.sorted_index_laws.specs.Stop.{IndexStop}
use Rattle.sorted_index_laws.specs.Tree.{Tree, pairs, IsIndex}
use Rattle.sorted_index_laws.specs.Changes.{pair_of, without_pair, path, Changes}
use Rattle.sorted_index_laws.specs.Search.{first_unknown}
use Rattle.sorted_index_laws.specs.Insertion.{IsNew, Inserts, lines_read}
use Rattle.sorted_index_laws.proofs.After.{areas}
use Rattle.statement_view.specs.Over.{Over, knows_over, laid_over}
use Rattle.statement_view.specs.Areas.{is_among, WritesOf}
use Rattle.row_writes.specs.declared.stop.PairRefusal.{PairRefusal}
use Rattle.row_writes.specs.declared.stop.PairRefusal.TheVariants.{Full}
use Rattle.row_writes.specs.Stop.{PairStop}
use Rattle.row_writes.specs.Pairs.{Tells, TellsRoom}
use Rattle.row_writes.specs.Areas.{IsNodeOf, KeepsToIndex, NodesOfIndex}
use Rattle.row_writes.proofs.AreaLists.{first_area, StopsAt, keeps_areas}
use Rattle.row_writes.proofs.NodesRead.{path_within, read_within, first_among}
use Rattle.row_writes.proofs.Trees.{a_line, no_area, no_room, ChangesAll, InsertsAll}

abbrev pub WritesArea : Over → Over → List Write → Type 0
WritesArea old new writes = (area : ℕ) → AllByRecursion (λ (w : Write). (w.key).area ≡ area) writes → WritesOf (area ∷ []) old new

abbrev pub SomeTree : (level : ℕ) → Tree level → Type 0
SomeTree level tree = Unit {0}

abbrev pub HasNot : IndexLine → Row → Dbkey → (level : ℕ) → Tree level → Type 0
HasNot x row key level tree = IsNew (pair_of (key_of x.fields row) key) (pairs level tree)

-- ---- what is lacked

abbrev pub Within : {E : Type 0} → ℕ → Stop E → Type 0
Within area = StopsAt (IsNodeOf (area ∷ []) (area ∷ []))

is_one : (a area : ℕ) → a ≡ area → is_among (area ∷ []) a ≡ true
is_one a area is = subst (λ (b : ℕ). is_among (area ∷ []) b ≡ true) (sym is) (first_area area [])

-- the first of these nodes that the view lacks
node_lacked : (known : Knowledge) (area : ℕ) (read : List Dbkey) (key : Dbkey) → AllByRecursion (λ (k : Dbkey). k.area ≡ area) read → first_unknown known read ≡ Some key → is_among (area ∷ []) key.area ≡ true
node_lacked known area read key nodes is = is_one key.area area (first_among (λ (k : Dbkey). k.area ≡ area) known read key nodes is)

room_at_area : (base : Held) (area : ℕ) (room : Room) (told : PairStop) → room.area ≡ area → TellsRoom base room told → Within area told
room_at_area base area room (Missing (needs.Line key)) is tells = absurd tells.1
room_at_area base area room (Missing (needs.Area a)) is tells = absurd tells.1
room_at_area base area room (Missing (needs.Room lacked)) is tells = is_one lacked.area area (tells.1 ∙ is)
room_at_area base area room (Own refusal) is tells = tt
room_at_area base area room (Bad key) is tells = tt
room_at_area base area room NoMemory is tells = tt

-- ---- a pair taken out

pub taken_keeps : (old new : Over) (x : IndexLine) (key : Dbkey) (k : List Value) (said writes : List Write) → writes ≡ said → ChangesAll old x k key (Ok said) → WritesArea old new writes → NodesOfIndex {E = PairRefusal} old new x.root SomeTree (Ok tt)
taken_keeps old new x key k said writes same changes wrote = λ first level tree st index has.
    wrote x.root.area (subst (AllByRecursion (λ (w : Write). (w.key).area ≡ x.root.area)) (sym same) (changes (laid_over old.lines first) level tree st.agrees index).0.0.in_area)

taking_told : (old : Over) (first : Lines) (root : Dbkey) (level : ℕ) (tree : Tree level) (pair : NodeEntry) (left : List NodeEntry) → IsIndex (laid_over old.lines first) root level tree → (stop : IndexStop) (told : PairStop) → Tells old.base stop told →
    Changes (knows_over old) (laid_over old.lines first) root level tree (path pair level tree) left (Err stop) → Within root.area told
taking_told old first root level tree pair left index (Missing (needs.Line q)) told tells said =
    let nodes = path_within (λ (k : Dbkey). k.area ≡ root.area) pair level tree (areas (laid_over old.lines first) root.area level tree index.stands) in
    subst (Within root.area) (sym tells) (node_lacked (knows_over old) root.area (path pair level tree) q nodes (a_line (first_unknown (knows_over old) (path pair level tree)) q said))
taking_told old first root level tree pair left index (Missing (needs.Area a)) told tells said = absurd (no_area (first_unknown (knows_over old) (path pair level tree)) a said)
taking_told old first root level tree pair left index (Missing (needs.Room r)) told tells said = absurd (no_room (first_unknown (knows_over old) (path pair level tree)) r said)
taking_told old first root level tree pair left index (Bad q) told tells said = absurd said
taking_told old first root level tree pair left index (Own d) told tells said = absurd said
taking_told old first root level tree pair left index NoMemory told tells said = subst (Within root.area) (sym tells) tt

pub taking_keeps : (old new : Over) (x : IndexLine) (key : Dbkey) (k : List Value) (stop : IndexStop) (told : PairStop) → ChangesAll old x k key (Err stop) → Tells old.base stop told → NodesOfIndex old new x.root SomeTree (Err told)
taking_keeps old new x key k stop told changes tells = λ first level tree st index has.
    taking_told old first x.root level tree (pair_of k key) (without_pair (pair_of k key) (pairs level tree)) index stop told tells (changes (laid_over old.lines first) level tree st.agrees index)

-- ---- a pair put in

pub added_keeps : (old new : Over) (x : IndexLine) (row : Row) (key : Dbkey) (k : List Value) (said writes : List Write) → k ≡ key_of x.fields row → writes ≡ said → InsertsAll old x k key (Ok said) → WritesArea old new writes → NodesOfIndex {E = PairRefusal} old new x.root (HasNot x row key) (Ok tt)
added_keeps old new x row key k said writes is same inserts wrote = λ first level tree st index fresh.
    wrote x.root.area (subst (AllByRecursion (λ (w : Write). (w.key).area ≡ x.root.area)) (sym same) (subst (λ k. InsertsAll old x k key (Ok said)) is inserts (laid_over old.lines first) level tree st.agrees index fresh).0.in_area)

adding_told : (old : Over) (first : Lines) (x : IndexLine) (row : Row) (key : Dbkey) (level : ℕ) (tree : Tree level) → IsIndex (laid_over old.lines first) x.root level tree → (stop : IndexStop) (told : PairStop) → (stop ≡ Bad x.root → told ≡ Own Full) → (stop ≢ Bad x.root → Tells old.base stop told) →
    Inserts (knows_over old) (laid_over old.lines first) x.root (pair_of (key_of x.fields row) key) x.unique level tree (Err stop) → Within x.root.area told
adding_told old first x row key level tree index (Missing (needs.Line q)) told root others said =
    let pair = pair_of (key_of x.fields row) key in
    let nodes = read_within (λ (k : Dbkey). k.area ≡ x.root.area) x.unique pair level tree (areas (laid_over old.lines first) x.root.area level tree index.stands) in
    subst (Within x.root.area) (sym (others (λ same. let bad : ⊥ = cc in bad))) (node_lacked (knows_over old) x.root.area (lines_read x.unique pair level tree) q nodes said)
adding_told old first x row key level tree index (Missing (needs.Area a)) told root others said = absurd said
adding_told old first x row key level tree index (Missing (needs.Room room)) told root others said =
    room_at_area old.base x.root.area room told (ap (λ (r : Room). r.area) said.0.2) (others (λ same. let bad : ⊥ = cc in bad))
adding_told old first x row key level tree index (Bad q) told root others said = subst (Within x.root.area) (sym (root (ap Bad said.0))) tt
adding_told old first x row key level tree index (Own d) told root others said = subst (Within x.root.area) (sym (others (λ same. let bad : ⊥ = cc in bad))) tt
adding_told old first x row key level tree index NoMemory told root others said = subst (Within x.root.area) (sym (others (λ same. let bad : ⊥ = cc in bad))) tt

pub adding_keeps : (old new : Over) (x : IndexLine) (row : Row) (key : Dbkey) (k : List Value) (stop : IndexStop) (told : PairStop) → k ≡ key_of x.fields row → InsertsAll old x k key (Err stop) →
    (stop ≡ Bad x.root → told ≡ Own Full) → (stop ≢ Bad x.root → Tells old.base stop told) → NodesOfIndex old new x.root (HasNot x row key) (Err told)
adding_keeps old new x row key k stop told is inserts root others = λ first level tree st index fresh.
    adding_told old first x row key level tree index stop told root others (subst (λ k. InsertsAll old x k key (Err stop)) is inserts (laid_over old.lines first) level tree st.agrees index fresh)

-- who keeps to the nodes of an index keeps to its area
pub index_keeps : (old new : Over) (root : Dbkey) (Has : (level : ℕ) → Tree level → Type 0) (result : Result (Unit {0}) PairStop) → NodesOfIndex old new root Has result → KeepsToIndex old new root Has result
index_keeps old new root Has result keeps = λ first level tree st index has. keeps_areas (root.area ∷ []) (root.area ∷ []) (root.area ∷ []) old new (λ a h. h) result (keeps first level tree st index has)
