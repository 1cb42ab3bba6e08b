-- The definition of an index keeps to its areas.
use Rattle.std.proofs.Common.{◌≡◌, ℕ, true, List, [], ◌∷◌, ◌++◌, map, length, Some, None, inl, inr, refl, sym, ap, subst, ◌∙◌}
use Rattle.std.specs.Prelude.{Result, Ok, Err}
use Rattle.std.specs.List.{AllByRecursion}
use Rattle.rdb_types.specs.declared.keys.Dbkey.{Dbkey}
use Rattle.rdo_ast.specs.Tree.{Name}
use Rattle.rdo_ast.specs.declared.reply.Reply.{Reply}
use Rattle.rdo_ast.specs.declared.syntax.IndexDefinition.{IndexDefinition}
use Rattle.rdb_meaning.specs.declared.tables.Relation.{Relation as Rows}
use Rattle.rdb_meaning.specs.declared.tables.Tables.{Tables}
use Rattle.rdb_meaning.specs.declared.tables.Index.{Index as IndexOf}
use Rattle.rdb_meaning.specs.Contents.{Row, relation_named, key_of, first_free, new_index_area}
use Rattle.rdb_meaning.specs.Execution.{area_of}
use Rattle.rdb_meaning.specs.Checks.{Refusal}
use Rattle.rdb_definitions.specs.NewIndex.{new_index}
use Rattle.line_view.specs.declared.need.Need.{Need}
use Rattle.line_view.specs.declared.need.Need.TheVariants as needs
use Rattle.line_view.specs.declared.stop.Stop.{Stop}
use Rattle.line_view.specs.declared.stop.Stop.TheVariants.{Missing, Bad, NoMemory, Own}
use Rattle.line_view.specs.declared.stop.Never.{Never}
use Rattle.line_view.specs.declared.writes.Write.{Write}
use Rattle.line_view.specs.Knowledge.{Knowledge, Lines, Agrees, laid}
use Rattle.line_view.specs.Held.{Held}
use Rattle.line_view.specs.Stops.{of_view}
use Rattle.catalog_lines.specs.declared.line.IndexLine.{IndexLine}
use Rattle.catalog_lines.specs.declared.line.CatalogLine.TheVariants.{Index}
use Rattle.catalog.specs.declared.reading.Catalog.{Catalog}
use Rattle.catalog.specs.Reading.{catalog_area}
use Rattle.catalog_definitions.specs.Causes.{catalog_room, StopsDefining}
use Rattle.catalog_definitions.specs.Written.{index_line, index_rooms, index_room, IsIndexWritten}
use Rattle.index_node.specs.Node.{IsNode}
use Rattle.sorted_index_laws.specs.Tree.{Tree, pairs}
use Rattle.sorted_index_laws.specs.Changes.{pair_of}
use Rattle.sorted_index_laws.specs.Insertion.{IsNew}
use Rattle.relation_rows.specs.declared.stored.StoredRow.{StoredRow}
use Rattle.relation_rows.specs.Indexed.{IsIndexOf}
use Rattle.relation_rows.specs.Relations.{stored_row}
use Rattle.relation_rows.specs.Stored.{IsNextNeed}
use Rattle.sound_changes.specs.Standing.{IsSoundAs}
use Rattle.sound_changes.proofs.RowsInOrder.{rows_in_order}
use Rattle.statement_view.specs.Over.{Over, Stands, laid_over, knows_over}
use Rattle.statement_view.specs.Areas.{is_among, IsNeedOf, WritesOf, KeepsTo}
use Rattle.row_writes.specs.declared.stop.PairRefusal.{PairRefusal}
use Rattle.row_writes.specs.declared.stop.PairRefusal.TheVariants as pair
use Rattle.row_writes.specs.declared.target.TargetRelation.{TargetRelation}
use Rattle.row_writes.specs.Stop.{PairStop}
use Rattle.row_writes.specs.Rows.{IsSoundView}
use Rattle.row_writes.specs.Areas.{KeepsToIndex}
use Rattle.row_writes.proofs.AreaLists.{Wider, one_more_area, first_area, one_of, nothing_written, writes_then, need_wider, keeps_wider, StopsAt}
use Rattle.stored_schema.specs.Targets.{HasTarget}
use Rattle.schema_writes.specs.declared.stop.SchemaRefusal.{SchemaRefusal}
use Rattle.schema_writes.specs.Stop.{SchemaStop, Tells}
use Rattle.schema_writes.proofs.Kept.{room_told, catalog_written}
use Rattle.schema_writes.proofs.Made.{Stays}
use Rattle.schema_writes.proofs.Nodes.{keys_on}
use Rattle.index_writes.specs.Reading.{IsLineWritten, ReadsRows}
use Rattle.index_writes.specs.Filling.{IsDuplicate, TellsRow, AreFitting}
use Rattle.index_writes.specs.Definition.{definition_refusal}
use Rattle.index_writes.specs.Areas.{ReadKeeps, KeepsToNodes, RowsKeep, FillKeeps, FillFromKeeps, IndexKeeps}
use Rattle.index_writes.proofs.Read.{one_written}
use Rattle.index_writes.proofs.Filled.{IsUnderway, AreUnderway, row_within, root_there}
use Rattle.index_writes.proofs.Defined.{next_in, x, line, root, there, keys}

-- ---- what is lacked

abbrev Missed : {E : Type 0} → List ℕ → List ℕ → Stop E → Type 0
Missed read changed = StopsAt (IsNeedOf read changed)

-- ---- the rows

module _ (o : Over) (c : Catalog) (n : Name) (target : TargetRelation) (is : (all : Lines) (t : Tables) (rel : Rows) → IsSoundAs all c t → relation_named n t ≡ Some rel → HasTarget c t n rel (Some target)) where
  -- the lines of an area are of it
  next_of : (all : Lines) (area : ℕ) (need : Need) → Agrees (knows_over o) all → IsNextNeed (knows_over o) area need → IsNeedOf (area ∷ []) [] need
  next_of all area (needs.Line key) agrees next = subst (λ (a : ℕ). is_among (area ∷ []) a ≡ true) (sym (there_of next.2.before (subst (AllByRecursion (λ (k : Dbkey). k.area ≡ area)) (sym (agrees.area area next.0 next.1) ∙ next.2.stands) (keys_on area all)))) (first_area area []) where
    there_of : (before : List Dbkey) → AllByRecursion (λ (k : Dbkey). k.area ≡ area) (before ++ key ∷ next.2.behind) → key.area ≡ area
    there_of [] each = each.0
    there_of (k ∷ ks) each = there_of ks each.1
  next_of all area (needs.Area a) agrees next = subst (λ (b : ℕ). is_among (area ∷ []) b ≡ true) (sym next.0) (first_area area [])
  next_of all area (needs.Room room) agrees next = absurd next

  pub rows_kept : (result : Result (List StoredRow) (Stop Never)) → ((need : Need) → result ≡ Err (Missing need) → IsNextNeed (knows_over o) target.stored.area need) → ReadKeeps o c n result
  rows_kept (Ok rows) missing = λ t rel first view named. nothing_written [] o
  rows_kept (Err (Missing need)) missing = λ t rel first view named.
      subst (λ (a : ℕ). IsNeedOf (a ∷ []) [] need) (sym (is (laid_over o.lines first) t rel view.sound named).is.area) (next_of (laid_over o.lines first) target.stored.area need view.stands.agrees (missing need refl))
  rows_kept (Err (Bad at)) missing = λ t rel first view named. tt
  rows_kept (Err NoMemory) missing = λ t rel first view named. tt
  rows_kept (Err (Own never)) missing = elim never [ ]

-- ---- one row

abbrev pub HasNoRow : IndexLine → StoredRow → (level : ℕ) → Tree level → Type 0
HasNoRow x row level tree = IsNew (pair_of (key_of x.fields row.row) row.key) (pairs level tree)

pub row_kept : (old new : Over) (x : IndexLine) (row : StoredRow) → KeepsToIndex {E = PairRefusal} old new x.root (HasNoRow x row) (Ok tt) → KeepsToIndex {E = SchemaRefusal} old new x.root (HasNoRow x row) (Ok tt)
row_kept old new x row keeps = λ first level tree stands index fresh. keeps first level tree stands index fresh

duplicate_told : (areas : List ℕ) (name : Name) (told : SchemaStop) → IsDuplicate name told → Missed areas areas told
duplicate_told areas name told (inl is) = subst (Missed areas areas) (sym is) tt
duplicate_told areas name told (inr is) = subst (Missed areas areas) (sym is) tt

told_kept : (areas : List ℕ) (name : Name) (at : Dbkey) (stop : PairStop) (told : SchemaStop) → TellsRow name at stop told → Missed areas areas stop → Missed areas areas told
told_kept areas name at (Missing need) told tells said = subst (Missed areas areas) (sym tells) said
told_kept areas name at (Bad key) told tells said = subst (Missed areas areas) (sym tells) tt
told_kept areas name at NoMemory told tells said = subst (Missed areas areas) (sym tells) tt
told_kept areas name at (Own pair.Duplicate) told tells said = duplicate_told areas name told tells
told_kept areas name at (Own pair.LongKey) told tells said = subst (Missed areas areas) (sym tells) tt
told_kept areas name at (Own pair.Full) told tells said = subst (Missed areas areas) (sym tells) tt

pub row_stops_kept : (old new : Over) (x : IndexLine) (row : StoredRow) (stop : PairStop) (told : SchemaStop) → TellsRow x.name row.key stop told → KeepsToIndex old new x.root (HasNoRow x row) (Err stop) → KeepsToIndex old new x.root (HasNoRow x row) (Err told)
row_stops_kept old new x row stop told tells keeps = λ first level tree stands index fresh. told_kept (x.root.area ∷ []) x.name row.key stop told tells (keeps first level tree stands index fresh)

-- ---- all rows

abbrev pub WritesNodes : Over → Over → IndexLine → List StoredRow → Type 0
WritesNodes old new x given = RowsKeep old new x given (Ok tt)

pub none_kept : (o : Over) (x : IndexLine) (given : List StoredRow) → WritesNodes o o x given
none_kept o x given = λ first rows same fitting stands index. nothing_written (x.root.area ∷ []) o

module _ (old mid new : Over) (x : IndexLine) (given left rest : List StoredRow) (row : StoredRow) (next : left ≡ row ∷ rest) (under : AreUnderway old mid x given left) where
  one_kept : (result : Result (Unit {0}) SchemaStop) → KeepsToIndex mid new x.root (HasNoRow x row) result → (first : Lines) (rows : List (Dbkey × Row)) → given ≡ map stored_row rows → AreFitting x rows → Stands old first → IsIndexOf (laid_over old.lines first) x.root x.fields [] → KeepsToNodes mid new x result
  one_kept result keeps first rows same fitting stands index = row_within old mid new first x rows row rest fitting (subst (IsUnderway old mid first x rows) next (under first rows same fitting stands index)) result keeps

  pub more_kept : WritesNodes old mid x given → KeepsToIndex {E = SchemaRefusal} mid new x.root (HasNoRow x row) (Ok tt) → WritesNodes old new x given
  more_kept wrote keeps = λ first rows same fitting stands index. writes_then (x.root.area ∷ []) old mid new (wrote first rows same fitting stands index) (one_kept (Ok tt) keeps first rows same fitting stands index)

  pub stops_kept : (told : SchemaStop) → KeepsToIndex mid new x.root (HasNoRow x row) (Err told) → RowsKeep old new x given (Err told)
  stops_kept told keeps = λ first rows same fitting stands index. one_kept (Err told) keeps first rows same fitting stands index

-- ---- all nodes

pub fill_kept : (old mid new : Over) (x : IndexLine) (given : List StoredRow) (image : List ℕ) (leaf : IsNode image (record { level = 0; entries = [] })) (stay : Stays old mid) (put_root : (first : Lines) → Stands old first → laid_over mid.lines first ≡ laid x.root (Some image) (laid_over old.lines first)) (base : mid.base ≡ old.base) →
    WritesOf (x.root.area ∷ []) old mid → (result : Result (Unit {0}) SchemaStop) → RowsKeep mid new x given result → FillKeeps old new x given result
fill_kept old mid new x given image leaf stay put_root base wrote (Ok u) keeps = λ first rows same fitting stands.
    writes_then (x.root.area ∷ []) old mid new wrote (keeps first rows same fitting (stay first stands) (root_there old mid new x given image leaf stay put_root base first stands))
fill_kept old mid new x given image leaf stay put_root base wrote (Err told) keeps = λ first rows same fitting stands.
    keeps first rows same fitting (stay first stands) (root_there old mid new x given image leaf stay put_root base first stands)

none_wider : (areas : List ℕ) → Wider [] areas
none_wider areas a h = let bad : ⊥ = cc in absurd bad

pub from_rows_kept : (old new : Over) (c : Catalog) (n : Name) (writes : List Write) (index : IndexLine) (rows : List StoredRow) (result : Result (Unit {0}) SchemaStop) → ReadsRows old c n (Ok rows) → IsLineWritten (Index index) writes → FillKeeps old new index rows result → FillFromKeeps old new c n writes result
from_rows_kept old new c n writes index rows result reads line keeps = λ x written t rel first view named fit.
    let lines : Index index ≡ Index x = one_written (Index index) (Index x) writes line written in
    let same : index ≡ x = cc in
    let own : FillKeeps old new x rows result = subst (λ (y : IndexLine). FillKeeps old new y rows result) same keeps in
    keeps_wider (x.root.area ∷ []) (x.root.area ∷ []) (rel.area ∷ x.root.area ∷ []) (x.root.area ∷ []) old new (one_more_area rel.area (x.root.area ∷ [])) (λ a h. h) result
    (own first rel.rows (reads t rel first view named) (record { sorted = rows_in_order (laid_over old.lines first) c t n rel (λ l. t) view.sound named; keys = fit }) view.stands)

pub reading_kept : (old new : Over) (c : Catalog) (n : Name) (writes : List Write) (stop : Stop Never) (told : SchemaStop) → ReadKeeps old c n (Err stop) → told ≡ of_view stop → FillFromKeeps old new c n writes (Err told)
reading_kept old new c n writes (Missing need) told reads same =
    subst (λ (s : SchemaStop). FillFromKeeps old new c n writes (Err s)) (sym same)
    (λ x written t rel first view named fit.
    need_wider (rel.area ∷ []) [] (rel.area ∷ x.root.area ∷ []) (x.root.area ∷ []) (one_of rel.area (rel.area ∷ x.root.area ∷ []) (first_area rel.area (x.root.area ∷ []))) (none_wider (x.root.area ∷ [])) need (reads t rel first view named))
reading_kept old new c n writes (Bad key) told reads same = subst (λ (s : SchemaStop). FillFromKeeps old new c n writes (Err s)) (sym same) (λ x written t rel first view named fit. tt)
reading_kept old new c n writes NoMemory told reads same = subst (λ (s : SchemaStop). FillFromKeeps old new c n writes (Err s)) (sym same) (λ x written t rel first view named fit. tt)
reading_kept old new c n writes (Own never) told reads same = elim never [ ]

-- ---- the definition

-- the catalog's tables have the indexes of those with rows
one_area : (all : Lines) (c : Catalog) (t : Tables) → IsSoundAs all c t → new_index_area c.tables ≡ new_index_area t
one_area all c t sound = λ i. first_free (length (sym sound.are.indexes i)) 17 (map (λ (e : Name × IndexOf). e.1.area) (sym sound.are.indexes i))

told_in : (base : Held) (known : Knowledge) (refusal : Refusal) (area : ℕ) (read areas : List ℕ) (stop : Stop Reply) (told : SchemaStop) → is_among areas area ≡ true → is_among areas catalog_area ≡ true → StopsDefining known refusal (index_rooms area) stop → Tells base stop told → Missed read areas told
told_in base known refusal area read areas (Missing need) told own catalog said tells =
    elim (next_in known area need said.1) as (λ o. Missed read areas told) [
      | inl here ↦ room_told base (index_room area) read areas told own (subst (λ (x : Need). Tells base (Missing x) told) (sym here) tells)
      | inr here ↦ room_told base (catalog_room 0) read areas told catalog (subst (λ (x : Need). Tells base (Missing x) told) (sym here) tells)
    ]
told_in base known refusal area read areas (Bad key) told own catalog said tells = absurd said
told_in base known refusal area read areas NoMemory told own catalog said tells = subst (Missed read areas) (sym tells) tt
told_in base known refusal area read areas (Own reply) told own catalog said tells = subst (Missed read areas) (sym tells) tt

abbrev areas_read : IndexDefinition → Tables → List ℕ
areas_read d t = area_of (relation_named d.relation t) ∷ new_index_area t ∷ []

abbrev areas_changed : Tables → List ℕ
areas_changed t = new_index_area t ∷ catalog_area ∷ []

catalog_too : (t : Tables) → is_among (areas_changed t) catalog_area ≡ true
catalog_too t = one_more_area (new_index_area t) (catalog_area ∷ []) catalog_area refl

pub index_stops_kept : (old new : Over) (c : Catalog) (d : IndexDefinition) (stop : Stop Reply) (told : SchemaStop) → Tells old.base stop told → StopsDefining (knows_over old) (definition_refusal d c.tables) (index_rooms (new_index_area c.tables)) stop → IndexKeeps old new c d (Err told)
index_stops_kept old new c d stop told tells said = λ t first view.
    let own = subst (λ (a : ℕ). is_among (areas_changed t) a ≡ true) (sym (one_area (laid_over old.lines first) c t view.sound)) (first_area (new_index_area t) (catalog_area ∷ [])) in
    told_in old.base (knows_over old) (definition_refusal d c.tables) (new_index_area c.tables) (areas_read d t) (areas_changed t) stop told own (catalog_too t) said tells

module _ (old mid : Over) (c : Catalog) (d : IndexDefinition) (writes given : List Write) (same : given ≡ writes) (none : definition_refusal d c.tables ≡ None) (written : IsIndexWritten (knows_over old) d.name (new_index d c.tables) writes) where
  module _ (t : Tables) (first : Lines) (view : IsSoundView old c t first) where
    -- the new index is in the new area
    new_root : written.root.area ≡ new_index_area t
    new_root = root old mid c d writes given same none written t first view ∙ one_area (laid_over old.lines first) c t view.sound

    kept_so : (result : Result (Unit {0}) SchemaStop) → FillFromKeeps old mid c d.relation given result → KeepsTo (areas_read d t) (areas_changed t) old mid result
    kept_so result keeps =
        let s = there old mid c d writes given same none written t first view in
        let a = written.root.area in
        let nodes : Wider (a ∷ []) (areas_changed t) = one_of a (areas_changed t) (subst (λ (b : ℕ). is_among (areas_changed t) b ≡ true) (sym new_root) (first_area (new_index_area t) (catalog_area ∷ []))) in
        let read : Wider ((s.0).area ∷ a ∷ []) (areas_read d t) = λ b h. subst (λ (l : List ℕ). is_among l b ≡ true) (λ i. (sym (ap area_of s.1) i) ∷ (new_root i) ∷ []) h in
        keeps_wider ((s.0).area ∷ a ∷ []) (a ∷ []) (areas_read d t) (areas_changed t) old mid read nodes result
        (keeps (x old mid c d writes given same none written) (line old mid c d writes given same none written) t s.0 first view s.1 (keys old mid c d writes given same none written t first view))

  pub filling_kept : (new : Over) (told : SchemaStop) → FillFromKeeps old mid c d.relation given (Err told) → IndexKeeps old new c d (Err told)
  filling_kept new told keeps = λ t first view. kept_so t first view (Err told) keeps

  pub index_kept : (new : Over) (put : List Write) → put ≡ writes → FillFromKeeps old mid c d.relation given (Ok tt) → ((areas : List ℕ) → AllByRecursion (λ (w : Write). is_among areas (w.key).area ≡ true) put → WritesOf areas mid new) → IndexKeeps old new c d (Ok tt)
  index_kept new put these keeps puts = λ t first view.
      let areas = areas_changed t in
      writes_then areas old mid new (kept_so t first view (Ok tt) keeps)
      (puts areas (subst (AllByRecursion (λ (w : Write). is_among areas (w.key).area ≡ true)) (sym these) (catalog_written (knows_over old) (laid_over old.lines first) areas 0 (index_line d.name (new_index d c.tables) written.root ∷ []) writes view.stands.agrees (catalog_too t) written.line)))
