-- The writing of a row keeps to the areas of its relation and of its indexes.
use Rattle.std.proofs.Common.{◌≡◌, ℕ, true, false, ◌<◌, List, [], ◌∷◌, get_or, length, Option, Some, None, sym, ap, subst, ◌∙◌}
use Rattle.std.specs.Prelude.{Result, Ok, Err, slice_get}
use Rattle.rdb_types.specs.declared.keys.Dbkey.{Dbkey}
use Rattle.rdo_ast.specs.Tree.{Name}
use Rattle.rdb_meaning.specs.declared.tables.Relation.{Relation as Rows}
use Rattle.rdb_meaning.specs.declared.tables.Tables.{Tables}
use Rattle.rdb_meaning.specs.Contents.{Row, relation_named, is_too_long}
use Rattle.line_view.specs.declared.need.Need.TheVariants.{Line, Area, Room}
use Rattle.line_view.specs.declared.stop.Stop.TheVariants.{Missing, Bad, NoMemory, Own}
use Rattle.line_view.specs.Knowledge.{Lines}
use Rattle.line_view.specs.Held.{Held}
use Rattle.record_format.specs.Rows.{IsRowImage}
use Rattle.stored_rows.specs.Fitting.{IsRowFor}
use Rattle.catalog_lines.specs.declared.line.IndexLine.{IndexLine}
use Rattle.sound_changes.specs.catalog.declared.reading.Catalog.{Catalog}
use Rattle.sound_changes.specs.catalog.Directory.{directory}
use Rattle.sound_changes.specs.catalog.Schema.{catalog_tables, stands}
use Rattle.sorted_index_laws.specs.Tree.{Tree, IsIndex}
use Rattle.sound_changes.specs.Standing.{IsSoundFor, tables_for}
use Rattle.sound_changes.specs.InTurn.{IsIndexOn}
use Rattle.sound_changes.proofs.Named.{Fits, all_fit, root_area}
use Rattle.sound_changes.proofs.IndexLaid.{at_place}
use Rattle.sound_changes.proofs.RowLaid.{row_goes as line_erased}
use Rattle.statement_view.specs.Over.{Over, Stands, laid_over, knows_over, room_at}
use Rattle.statement_view.specs.Areas.{is_among, WritesOf}
use Rattle.row_writes.specs.declared.target.TargetRelation.{TargetRelation}
use Rattle.row_writes.specs.declared.stop.PairRefusal.{PairRefusal}
use Rattle.row_writes.specs.Stop.{PairStop, RowStop}
use Rattle.row_writes.specs.Target.{AreOwn, IsTarget}
use Rattle.row_writes.specs.Pairs.{TakesPair}
use Rattle.row_writes.specs.Changes.{Underway, tables_to, row_stop_of}
use Rattle.row_writes.specs.Rows.{IsSoundView, TellsNoRoom}
use Rattle.row_writes.specs.Areas.{IsNodeOf, KeepsToNodes, NodesOfIndex, PairKeeps, areas_of, PairsKeep, areas_with, StoreKeeps, ChangeKeeps, EraseKeeps, StoreNodes, ChangeNodes, EraseNodes}
use Rattle.row_writes.proofs.AreaLists.{Wider, one_more_area, first_area, one_of, index_among, nothing_written, writes_then, writes_wider, node_wider, keeps_areas, stops_at}
use Rattle.row_writes.proofs.IndexKept.{SomeTree, HasNot}
use Rattle.row_writes.proofs.Steps.{waits, index, fresh, gone, left_index, left_fresh}
use Rattle.row_writes.proofs.InTurn.{ChangesSome, split}
use Rattle.row_writes.proofs.Lines.{Laid, begun, starts, line_sound}
use Rattle.row_writes.proofs.Trees.{Stays}
use Rattle.row_writes.proofs.Stopping.{row_stops}

-- ---- one index

-- the root of an index is in its area
pub root_of : (all : Lines) (c : Catalog) (t : Tables) (seen : _) (area : ℕ) (x : IndexLine) → IsSoundFor all c t seen → IsIndexOn c area x → x.root.area ≡ x.area
root_of all c t seen area x sound own =
    let d = directory c.lines in
    let u = catalog_tables c.lines in
    let fits = at_place (Fits all d u) c.lines own.place own.line (all_fit all c sound.decodes) own.stands in
    root_area d u own.line.key x (ap (λ l. stands d u own.line.key l) (sym own.is) ∙ fits.stood)

-- in the words of a map with a tree of the index
keeps_here : (old new : Over) (first : Lines) (x : IndexLine) (Has : (level : ℕ) → Tree level → Type 0) (level : ℕ) (tree : Tree level) → x.root.area ≡ x.area → Stands old first → IsIndex (laid_over old.lines first) x.root level tree → Has level tree → (result : Result (Unit {0}) PairStop) → NodesOfIndex old new x.root Has result → KeepsToNodes (x.area ∷ []) (x.area ∷ []) old new result
keeps_here old new first x Has level tree root st index has result keeps = subst (λ (a : ℕ). KeepsToNodes (a ∷ []) (a ∷ []) old new result) root (keeps first level tree st index has)

pub pair_keeps : (old new : Over) (x : IndexLine) (was to : Option Row) (key : Dbkey) (result : Result (Unit {0}) PairStop) → NodesOfIndex old new x.root SomeTree result → PairKeeps old new x was to key result
pair_keeps old new x was to key result keeps = λ c n rel t first done st own unused.
    let index = waits old x was to key c n rel t first done st own unused in
    let root = root_of (laid_over old.lines first) c (tables_to n key to t) (tables_for rel.area done t (tables_to n key to t)) rel.area x st.sound own in
    keeps_here old new first x SomeTree index.is.level index.is.tree root st.stands index.is.is tt result keeps

pub stored_keeps : (old new : Over) (x : IndexLine) (row : Row) (key : Dbkey) (result : Result (Unit {0}) PairStop) → NodesOfIndex old new x.root (HasNot x row key) result → PairKeeps old new x None (Some row) key result
stored_keeps old new x row key result keeps = λ c n rel t first done st own unused.
    let here = index old new x row key c n rel t first done st own unused in
    let root = root_of (laid_over old.lines first) c (tables_to n key (Some row) t) (tables_for rel.area done t (tables_to n key (Some row) t)) rel.area x st.sound own in
    keeps_here old new first x (HasNot x row key) here.is.level here.is.tree root st.stands here.is.is (fresh old new x row key c n rel t first done st own unused) result keeps

pub unmoved_keeps : (o : Over) (x : IndexLine) (was to : Option Row) (key : Dbkey) → PairKeeps o o x was to key (Ok tt)
unmoved_keeps o x was to key = λ c n rel t first done st own unused. nothing_written (x.area ∷ []) o

behind_taking : (areas : List ℕ) (old mid new : Over) (result : Result (Unit {0}) PairStop) → WritesOf areas old mid → KeepsToNodes areas areas mid new result → KeepsToNodes areas areas old new result
behind_taking areas old mid new (Ok u) one two = writes_then areas old mid new one two
behind_taking areas old mid new (Err stop) one two = two

pub moved_keeps : (old mid new : Over) (x : IndexLine) (was row : Row) (key : Dbkey) (result : Result (Unit {0}) PairStop) → TakesPair old mid x was key (Ok tt) → mid.base ≡ old.base → NodesOfIndex {E = PairRefusal} old mid x.root SomeTree (Ok tt) → NodesOfIndex mid new x.root (HasNot x row key) result →
    PairKeeps old new x (Some was) (Some row) key result
moved_keeps old mid new x was row key result takes base taking adding = λ c n rel t first done st own unused.
    let index = waits old x (Some was) (Some row) key c n rel t first done st own unused in
    let root = root_of (laid_over old.lines first) c (tables_to n key (Some row) t) (tables_for rel.area done t (tables_to n key (Some row) t)) rel.area x st.sound own in
    let left = gone old mid new x was row key c n rel t first done st own unused takes base in
    behind_taking (x.area ∷ []) old mid new result (keeps_here old mid first x SomeTree index.is.level index.is.tree root st.stands index.is.is tt (Ok tt) taking)
    (keeps_here mid new first x (HasNot x row key) left.leaves.level left.leaves.tree root left.stands (left_index old mid new x was row key c n rel t first done st own unused takes base) (left_fresh old mid new x was row key c n rel t first done st own unused takes base) result adding)

-- ---- one index after another

-- what was written along the indexes is of their areas
abbrev pub WritesSome : Over → Over → List IndexLine → Option Row → Option Row → Dbkey → Type 0
WritesSome old new xs was to key = (c : Catalog) (n : Name) (rel : Rows) (t : Tables) (first : Lines) → Underway c n rel t key was to old first [] → AreOwn c rel.area [] xs → WritesOf (areas_of xs) old new

pub none_written : (o : Over) (xs : List IndexLine) (was to : Option Row) (key : Dbkey) → WritesSome o o xs was to key
none_written o xs was to key = λ c n rel t first st own. nothing_written (areas_of xs) o

module _ (old mid new : Over) (xs : List IndexLine) (i : ℕ) (x : IndexLine) (was to : Option Row) (key : Dbkey) (inside : i < length xs) (is : x ≡ get_or xs i x) (some : ChangesSome old mid xs i was to key) (at : slice_get xs i ≡ Some x) where
  wider : Wider (x.area ∷ []) (areas_of xs)
  wider = one_of x.area (areas_of xs) (index_among xs i x at)

  kept_here : (result : Result (Unit {0}) PairStop) → PairKeeps mid new x was to key result → (c : Catalog) (n : Name) (rel : Rows) (t : Tables) (first : Lines) → Underway c n rel t key was to old first [] → AreOwn c rel.area [] xs → KeepsToNodes (x.area ∷ []) (x.area ∷ []) mid new result
  kept_here result keeps c n rel t first st own =
      let so = some c n rel t first st own in
      let mine = subst (AreOwn c rel.area so.done) (split old mid new xs i x was to key inside is some) so.own in
      keeps c n rel t first so.done so.underway mine.0 mine.1

  pub one_keeps : WritesSome old mid xs was to key → PairKeeps mid new x was to key (Ok tt) → WritesSome old new xs was to key
  one_keeps wrote keeps = λ c n rel t first st own. writes_then (areas_of xs) old mid new (wrote c n rel t first st own) (writes_wider (x.area ∷ []) (areas_of xs) mid new wider (kept_here (Ok tt) keeps c n rel t first st own))

  pub one_stops_at : (stop : PairStop) → PairKeeps mid new x was to key (Err stop) → PairsKeep old new xs was to key (Err (row_stop_of i stop))
  one_stops_at stop keeps = λ c n rel t first st own.
      row_stops (IsNodeOf (areas_of xs) (areas_of xs)) (λ k. Unit {0}) (λ reason. Unit {0}) (λ reason. Unit {0}) i (λ r said. tt) stop
      (stops_at (IsNodeOf (x.area ∷ []) (x.area ∷ [])) (IsNodeOf (areas_of xs) (areas_of xs)) (node_wider (x.area ∷ []) (x.area ∷ []) (areas_of xs) (areas_of xs) wider wider) stop (kept_here (Err stop) keeps c n rel t first st own))

-- ---- the row's line, and then its pairs

module _ (old mid new : Over) (rel : Rows) (xs : List IndexLine) (key : Dbkey) (area : key.area ≡ rel.area) (wrote : WritesOf (key.area ∷ []) old mid) where
  of_pairs : Wider (areas_of xs) (areas_with rel xs)
  of_pairs = one_more_area rel.area (areas_of xs)

  of_line : WritesOf (areas_with rel xs) old mid
  of_line = writes_wider (rel.area ∷ []) (areas_with rel xs) old mid (one_of rel.area (areas_with rel xs) (first_area rel.area (areas_of xs))) (subst (λ (a : ℕ). WritesOf (a ∷ []) old mid) area wrote)

  row_keeps : (result : Result (Unit {0}) RowStop) → KeepsToNodes (areas_of xs) (areas_of xs) mid new result → KeepsToNodes (areas_of xs) (areas_with rel xs) old new result
  row_keeps (Ok u) keeps = writes_then (areas_with rel xs) old mid new of_line (writes_wider (areas_of xs) (areas_with rel xs) mid new of_pairs keeps)
  row_keeps (Err stop) keeps = stops_at (IsNodeOf (areas_of xs) (areas_of xs)) (IsNodeOf (areas_of xs) (areas_with rel xs)) (node_wider (areas_of xs) (areas_of xs) (areas_of xs) (areas_with rel xs) (λ a h. h) of_pairs) stop keeps

module _ (old mid new : Over) (r : TargetRelation) (row : Row) (image : List ℕ) (image_is : IsRowImage image r.stored.version row) (fits : IsRowFor r.stored.version r.stored.fields.now row) (short : is_too_long r.stored.fields.now row ≡ false)
    (key : Dbkey) (stay : Stays old mid) (put : Laid old mid key (Some image)) (base : mid.base ≡ old.base) (wrote : WritesOf (key.area ∷ []) old mid) where
  module _ (is_room : (knows_over old).room (room_at r.stored.area r.class 0) ≡ Some key) where
    stored_here : (result : Result (Unit {0}) RowStop) → PairsKeep mid new r.indexes.now None (Some row) key result → (c : Catalog) (n : Name) (rel : Rows) (t : Tables) (first : Lines) → IsSoundView old c t first → relation_named n t ≡ Some rel → IsTarget c n rel r →
        KeepsToNodes (areas_of r.indexes.now) (areas_with rel r.indexes.now) old new result
    stored_here result keeps c n rel t first view named target =
        let area = view.stands.agrees.within (room_at r.stored.area r.class 0) key is_room ∙ sym target.area in
        row_keeps old mid new rel r.indexes.now key area wrote result
        (keeps c n rel t first (starts old mid new r row image image_is fits short key stay put base is_room c n rel t first view named target) target.indexes)

    pub store_keeps : PairsKeep mid new r.indexes.now None (Some row) key (Ok tt) → StoreNodes old new r (Ok key)
    store_keeps keeps = λ c n rel t first view named target. stored_here (Ok tt) keeps c n rel t first view named target

    pub store_stops : (stop : RowStop) → PairsKeep mid new r.indexes.now None (Some row) key (Err stop) → StoreNodes old new r (Err stop)
    store_stops stop keeps = λ c n rel t first view named target. stored_here (Err stop) keeps c n rel t first view named target

  pub change_keeps : (was : Row) (result : Result (Unit {0}) RowStop) → PairsKeep mid new r.indexes.now (Some was) (Some row) key result → ChangeNodes old new r key was result
  change_keeps was result keeps = λ c n rel t first view named target found area.
      row_keeps old mid new rel r.indexes.now key area wrote result
      (keeps c n rel t first (begun old mid key (Some was) (Some row) (Some image) c n rel t first view named found stay put (line_sound old mid new r row image image_is fits short key stay put base c n rel t first view named target area)) target.indexes)

pub erase_keeps : (old mid new : Over) (xs : List IndexLine) (was : Row) (key : Dbkey) (result : Result (Unit {0}) RowStop) → Stays old mid → Laid old mid key None → WritesOf (key.area ∷ []) old mid → PairsKeep mid new xs (Some was) None key result → EraseNodes old new xs key was result
erase_keeps old mid new xs was key result stay put wrote keeps = λ c n rel t first view named own found area.
    row_keeps old mid new rel xs key area wrote result
    (keeps c n rel t first (begun old mid key (Some was) None None c n rel t first view named found stay put (line_erased (laid_over old.lines first) c t n rel key view.sound named area)) own)

-- ---- no room

pub no_room_keeps : (old new : Over) (r : TargetRelation) (base : Held) (class : ℕ) (stop : RowStop) → TellsNoRoom base r.stored.area class stop → StoreNodes old new r (Err stop)
no_room_keeps old new r base class (Missing (Line key)) tells = absurd tells.1
no_room_keeps old new r base class (Missing (Area area)) tells = absurd tells.1
no_room_keeps old new r base class (Missing (Room room)) tells = λ c n rel t first view named target.
    subst (λ (a : ℕ). is_among (areas_with rel r.indexes.now) a ≡ true) (sym (tells.1 ∙ sym target.area)) (first_area rel.area (areas_of r.indexes.now))
no_room_keeps old new r base class (Own refusal) tells = λ c n rel t first view named target. tt
no_room_keeps old new r base class (Bad key) tells = absurd tells
no_room_keeps old new r base class NoMemory tells = absurd tells

-- ---- nodes and their areas

pub store_areas : (old new : Over) (r : TargetRelation) (result : Result Dbkey RowStop) → StoreNodes old new r result → StoreKeeps old new r result
store_areas old new r result keeps = λ c n rel t first view named target.
    let xs = r.indexes.now in
    keeps_areas (areas_of xs) (areas_with rel xs) (areas_with rel xs) old new (one_more_area rel.area (areas_of xs)) result (keeps c n rel t first view named target)

pub change_areas : (old new : Over) (r : TargetRelation) (key : Dbkey) (was : Row) (result : Result (Unit {0}) RowStop) → ChangeNodes old new r key was result → ChangeKeeps old new r key was result
change_areas old new r key was result keeps = λ c n rel t first view named target found area.
    let xs = r.indexes.now in
    keeps_areas (areas_of xs) (areas_with rel xs) (areas_with rel xs) old new (one_more_area rel.area (areas_of xs)) result (keeps c n rel t first view named target found area)

pub erase_areas : (old new : Over) (xs : List IndexLine) (key : Dbkey) (was : Row) (result : Result (Unit {0}) RowStop) → EraseNodes old new xs key was result → EraseKeeps old new xs key was result
erase_areas old new xs key was result keeps = λ c n rel t first view named own found area.
    keeps_areas (areas_of xs) (areas_with rel xs) (areas_with rel xs) old new (one_more_area rel.area (areas_of xs)) result (keeps c n rel t first view named own found area)
