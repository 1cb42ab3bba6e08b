-- In which logical areas the writing of a row reads and writes lines.
use Rattle.std.specs.Prelude.{◌≡◌, ℕ, true, false, List, [], ◌∷◌, map, Option, Some, Result}
use Rattle.std.specs.FinMap.Entries.{find}
use Rattle.rdb_types.specs.declared.keys.Dbkey.{Dbkey}
use Rattle.rdb_types.specs.Order.{dbkey_order}
use Rattle.rdo_ast.specs.Tree.{Name}
use Rattle.rdb_meaning.specs.declared.tables.Relation.{Relation as Rows}
use Rattle.rdb_meaning.specs.declared.tables.Tables.{Tables}
use Rattle.rdb_meaning.specs.Contents.{Row, relation_named, is_used}
use Rattle.line_view.specs.declared.need.Need.{Need}
use Rattle.line_view.specs.declared.need.Need.TheVariants.{Line, Area, Room}
use Rattle.line_view.specs.declared.stop.Stop.{Stop}
use Rattle.line_view.specs.Knowledge.{Lines}
use Rattle.line_view.specs.Stops.{Answers}
use Rattle.catalog_lines.specs.declared.line.IndexLine.{IndexLine}
use Rattle.sound_changes.specs.catalog.declared.reading.Catalog.{Catalog}
use Rattle.sorted_index_laws.specs.Tree.{Tree, IsIndex}
use Rattle.sound_changes.specs.InTurn.{IsIndexOn}
use Rattle.statement_view.specs.Over.{Over, Stands, laid_over}
use Rattle.statement_view.specs.Areas.{is_among, WritesOf, KeepsTo}
use Rattle.row_writes.specs.declared.target.TargetRelation.{TargetRelation}
use Rattle.row_writes.specs.Stop.{PairStop, RowStop}
use Rattle.row_writes.specs.Target.{AreOwn, IsTarget}
use Rattle.row_writes.specs.Changes.{Underway}
use Rattle.row_writes.specs.Rows.{IsSoundView}

-- ---- nodes

-- a line of these areas, or a room of those; no area, since indexes are read line by line
abbrev pub IsNodeOf : List ℕ → List ℕ → Need → Type 0
IsNodeOf lines rooms (Line key) = is_among lines key.area ≡ true
IsNodeOf lines rooms (Area area) = ⊥
IsNodeOf lines rooms (Room room) = is_among rooms room.area ≡ true

-- Work over the view keeps to these nodes: what it names as missing is one of these lines or rooms, and behind success what it wrote is of the areas of the rooms.
abbrev pub KeepsToNodes : {T E : Type 0} → List ℕ → List ℕ → Over → Over → Result T (Stop E) → Type 0
KeepsToNodes lines rooms old new result = Answers (λ given. WritesOf rooms old new) (IsNodeOf lines rooms) (λ key. Unit {0}) (λ own. Unit {0}) result

-- ---- one index

-- Over each map in which the index of this root has a tree of which this holds, the work keeps to the index's area.
abbrev pub KeepsToIndex : {E : Type 0} → Over → Over → Dbkey → ((level : ℕ) → Tree level → Type 0) → Result (Unit {0}) (Stop E) → Type 0
KeepsToIndex old new root Has result = (first : Lines) (level : ℕ) (tree : Tree level) → Stands old first → IsIndex (laid_over old.lines first) root level tree → Has level tree → KeepsTo (root.area ∷ []) (root.area ∷ []) old new result

-- Over each such map the work keeps to the index's nodes.
abbrev pub NodesOfIndex : {E : Type 0} → Over → Over → Dbkey → ((level : ℕ) → Tree level → Type 0) → Result (Unit {0}) (Stop E) → Type 0
NodesOfIndex old new root Has result = (first : Lines) (level : ℕ) (tree : Tree level) → Stands old first → IsIndex (laid_over old.lines first) root level tree → Has level tree → KeepsToNodes (root.area ∷ []) (root.area ∷ []) old new result

-- the same of a row's pair, while the row's pairs are changed
abbrev pub PairKeeps : Over → Over → IndexLine → Option Row → Option Row → Dbkey → Result (Unit {0}) PairStop → Type 0
PairKeeps old new x was to key result = (c : Catalog) (n : Name) (rel : Rows) (t : Tables) (first : Lines) (done : List ℕ) → Underway c n rel t key was to old first done → IsIndexOn c rel.area x → is_used x.area done ≡ false →
    KeepsToNodes (x.area ∷ []) (x.area ∷ []) old new result

-- ---- all indexes

abbrev pub areas_of : List IndexLine → List ℕ
areas_of xs = map (λ x. x.area) xs

abbrev pub PairsKeep : Over → Over → List IndexLine → Option Row → Option Row → Dbkey → Result (Unit {0}) RowStop → Type 0
PairsKeep old new xs was to key result = (c : Catalog) (n : Name) (rel : Rows) (t : Tables) (first : Lines) → Underway c n rel t key was to old first [] → AreOwn c rel.area [] xs → KeepsToNodes (areas_of xs) (areas_of xs) old new result

-- ---- a row

-- the area of a relation, and those of its indexes
abbrev pub areas_with : Rows → List IndexLine → List ℕ
areas_with rel xs = rel.area ∷ areas_of xs

-- Over each map with this relation of the target, the work keeps to the areas of the relation and of its indexes.
abbrev pub StoreKeeps : Over → Over → TargetRelation → Result Dbkey RowStop → Type 0
StoreKeeps old new r result = (c : Catalog) (n : Name) (rel : Rows) (t : Tables) (first : Lines) → IsSoundView old c t first → relation_named n t ≡ Some rel → IsTarget c n rel r →
    KeepsTo (areas_with rel r.indexes.now) (areas_with rel r.indexes.now) old new result

abbrev pub ChangeKeeps : Over → Over → TargetRelation → Dbkey → Row → Result (Unit {0}) RowStop → Type 0
ChangeKeeps old new r key was result = (c : Catalog) (n : Name) (rel : Rows) (t : Tables) (first : Lines) → IsSoundView old c t first → relation_named n t ≡ Some rel → IsTarget c n rel r → find dbkey_order key rel.rows ≡ Some was → key.area ≡ rel.area →
    KeepsTo (areas_with rel r.indexes.now) (areas_with rel r.indexes.now) old new result

abbrev pub EraseKeeps : Over → Over → List IndexLine → Dbkey → Row → Result (Unit {0}) RowStop → Type 0
EraseKeeps old new xs key was result = (c : Catalog) (n : Name) (rel : Rows) (t : Tables) (first : Lines) → IsSoundView old c t first → relation_named n t ≡ Some rel → AreOwn c rel.area [] xs → find dbkey_order key rel.rows ≡ Some was → key.area ≡ rel.area →
    KeepsTo (areas_with rel xs) (areas_with rel xs) old new result

-- The same, with lines of the indexes alone for those that are read.
abbrev pub StoreNodes : Over → Over → TargetRelation → Result Dbkey RowStop → Type 0
StoreNodes old new r result = (c : Catalog) (n : Name) (rel : Rows) (t : Tables) (first : Lines) → IsSoundView old c t first → relation_named n t ≡ Some rel → IsTarget c n rel r →
    KeepsToNodes (areas_of r.indexes.now) (areas_with rel r.indexes.now) old new result

abbrev pub ChangeNodes : Over → Over → TargetRelation → Dbkey → Row → Result (Unit {0}) RowStop → Type 0
ChangeNodes old new r key was result = (c : Catalog) (n : Name) (rel : Rows) (t : Tables) (first : Lines) → IsSoundView old c t first → relation_named n t ≡ Some rel → IsTarget c n rel r → find dbkey_order key rel.rows ≡ Some was → key.area ≡ rel.area →
    KeepsToNodes (areas_of r.indexes.now) (areas_with rel r.indexes.now) old new result

abbrev pub EraseNodes : Over → Over → List IndexLine → Dbkey → Row → Result (Unit {0}) RowStop → Type 0
EraseNodes old new xs key was result = (c : Catalog) (n : Name) (rel : Rows) (t : Tables) (first : Lines) → IsSoundView old c t first → relation_named n t ≡ Some rel → AreOwn c rel.area [] xs → find dbkey_order key rel.rows ≡ Some was → key.area ≡ rel.area →
    KeepsToNodes (areas_of xs) (areas_with rel xs) old new result
