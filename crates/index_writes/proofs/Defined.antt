-- An index that was defined, or why it isn't.
use Rattle.std.proofs.Common.{◌≡◌, ℕ, ◌≤◌, cond, true, false, List, [], ◌∷◌, ◌++◌, Option, Some, None, inl, inr, refl, sym, ap, subst, ◌∙◌}
use Rattle.std.specs.Prelude.{◌⊎◌, Result, Ok, Err, option_map, is_some, IsSome}
use Rattle.std.specs.List.{AllByRecursion}
use Rattle.std.proofs.lemmas.Option.{none-some}
use Rattle.rdb_types.specs.declared.keys.Dbkey.{Dbkey}
use Rattle.rdo_ast.specs.Tree.{Name}
use Rattle.rdo_ast.specs.declared.reply.Reply.{Reply}
use Rattle.rdo_ast.specs.declared.syntax.IndexDefinition.{IndexDefinition}
use Rattle.rdb_meaning.specs.declared.tables.Relation.{Relation as Rows}
use Rattle.rdb_meaning.specs.declared.tables.Tables.{Tables}
use Rattle.rdb_meaning.specs.Contents.{Row, relation_named, fields_of, rows_of, key_of, new_index_area}
use Rattle.rdb_meaning.specs.Execution.{area_of}
use Rattle.rdb_meaning.specs.Defining.{positions_of, longest_key, keys_repeat, index_names, index_refusal, with_index}
use Rattle.rdb_definitions.specs.NewIndex.{new_index}
use Rattle.line_view.specs.declared.need.Need.{Need}
use Rattle.line_view.specs.declared.need.Need.TheVariants as needs
use Rattle.line_view.specs.declared.need.Room.{Room as RoomOf}
use Rattle.line_view.specs.declared.stop.Stop.{Stop}
use Rattle.line_view.specs.declared.stop.Stop.TheVariants.{Missing, Bad, NoMemory, Own}
use Rattle.line_view.specs.declared.stop.Never.{Never}
use Rattle.line_view.specs.declared.writes.Write.{Write}
use Rattle.line_view.specs.Knowledge.{Knowledge, Lines}
use Rattle.line_view.specs.Held.{Held, knows}
use Rattle.line_view.specs.Stops.{Stops, Lacks, of_view}
use Rattle.line_view.specs.Writes.{laid_all}
use Rattle.line_view.proofs.Written.{laid_in_turn}
use Rattle.catalog_lines.specs.declared.line.IndexLine.{IndexLine}
use Rattle.catalog_lines.specs.declared.line.CatalogLine.TheVariants.{Index}
use Rattle.catalog.specs.declared.reading.Catalog.{Catalog}
use Rattle.catalog_definitions.specs.Causes.{catalog_room, first_unknown_room, IsNextRoom, StopsDefining}
use Rattle.catalog_definitions.specs.Written.{index_line, index_room, index_rooms, IsIndexWritten}
use Rattle.catalog_definitions.specs.Leaving.{Leaves, Turns}
use Rattle.catalog_definitions.proofs.NewIndexes.{sound as found}
use Rattle.catalog_definitions.proofs.KeyPlaces.{first_none}
use Rattle.sorted_index_laws.specs.Insertion.{IsKey}
use Rattle.relation_rows.specs.declared.stored.StoredRow.{StoredRow}
use Rattle.relation_rows.specs.Indexed.{IsIndexOf}
use Rattle.sound_changes.specs.Standing.{IsSoundAs}
use Rattle.sound_changes.proofs.Basics.{all_of}
use Rattle.sound_changes.proofs.RowsInOrder.{rows_in_order}
use Rattle.schema_writes.proofs.of_sound_statements.Indexes.{index_defined}
use Rattle.statement_view.specs.Over.{Over, laid_over, knows_over, all_rooms, AreRoomsKnown}
use Rattle.row_writes.specs.Rows.{IsSoundView}
use Rattle.schema_writes.specs.declared.stop.SchemaRefusal.TheVariants.{Refused, NoRoom, Full}
use Rattle.schema_writes.specs.Stop.{SchemaStop, TellsRoom, Tells}
use Rattle.schema_writes.proofs.Made.{Stays, AllLaid}
use Rattle.index_writes.specs.Reading.{IsLineWritten, ReadsRows}
use Rattle.index_writes.specs.Filling.{IsFilled, RowsAdded, Fills}
use Rattle.index_writes.specs.Definition.{FillsFromRows, definition_refusal, HasNoRoom, IsNotIndexed, DefinesIndex}
use Rattle.index_writes.proofs.Keys.{keys_fit}
use Rattle.index_writes.proofs.Read.{one_written, line_written}
use Rattle.index_writes.proofs.Refusals.{fields_alike, refused_too, no_names, short, unrefused, all_unrefused, duplicate}

-- ---- the nodes

-- the index of which the line is written is the one that was read back
pub filled_from : (old new : Over) (c : Catalog) (n : Name) (writes : List Write) (index : IndexLine) (rows : List StoredRow) (result : Result (Unit {0}) SchemaStop) → ReadsRows old c n (Ok rows) → IsLineWritten (Index index) writes → Fills old new index rows result → FillsFromRows old new c n writes result
filled_from old new c n writes index rows result reads line fills = λ x written t rel first view named keys.
    let lines : Index index ≡ Index x = one_written (Index index) (Index x) writes line written in
    let same : index ≡ x = cc in
    let own : Fills old new x rows result = subst (λ (y : IndexLine). Fills old new y rows result) same fills in
    own first rel.rows (reads t rel first view named) (record { sorted = rows_in_order (laid_over old.lines first) c t n rel (λ l. t) view.sound named; keys = keys }) view.stands

pub reading_stops : (old new : Over) (c : Catalog) (n : Name) (writes : List Write) (stop : Stop Never) (told : SchemaStop) → ReadsRows old c n (Err stop) → told ≡ of_view stop → FillsFromRows old new c n writes (Err told)
reading_stops old new c n writes (Missing need) told reads same = subst (λ (s : SchemaStop). FillsFromRows old new c n writes (Err s)) (sym same) (λ x written t rel first view named keys. reads t rel first view named)
reading_stops old new c n writes (Bad key) told reads same = subst (λ (s : SchemaStop). FillsFromRows old new c n writes (Err s)) (sym same) (λ x written t rel first view named keys. reads t rel first view named)
reading_stops old new c n writes NoMemory told reads same = subst (λ (s : SchemaStop). FillsFromRows old new c n writes (Err s)) (sym same) (λ x written t rel first view named keys. tt)
reading_stops old new c n writes (Own never) told reads same = elim never [ ]

-- ---- the catalog stops

abbrev asked : Option Need → Need → Need
asked (Some need) other = need
asked None other = other

-- what is named is a room of the index or of the catalog
pub next_in : (known : Knowledge) (area : ℕ) (need : Need) → IsNextRoom known (index_rooms area) need → (needs.Room (index_room area) ≡ need) ⊎ (needs.Room (catalog_room 0) ≡ need)
next_in known area need is =
    elim (is_some (known.room (index_room area))) as (λ b. option_map needs.Room (cond b (first_unknown_room known (catalog_room 0 ∷ [])) (Some (index_room area))) ≡ Some need → (needs.Room (index_room area) ≡ need) ⊎ (needs.Room (catalog_room 0) ≡ need)) [
      | true ↦ λ h. elim (is_some (known.room (catalog_room 0))) as (λ b. option_map needs.Room (cond b None (Some (catalog_room 0))) ≡ Some need → (needs.Room (index_room area) ≡ need) ⊎ (needs.Room (catalog_room 0) ≡ need)) [
        | true ↦ λ k. absurd (none-some need k)
        | false ↦ λ k. inr (ap (λ (o : Option Need). asked o need) k)
      ] h
      | false ↦ λ h. inl (ap (λ (o : Option Need). asked o need) h)
    ] is

abbrev IsStopped : Held → Lines → Catalog → IndexDefinition → Tables → SchemaStop → Type 0
IsStopped base first c d t = Stops (λ need. (definition_refusal d c.tables ≡ None) × Lacks (knows base) need) (λ key. ⊥) (IsNotIndexed base first c d t)

told_room : (base : Held) (first : Lines) (c : Catalog) (d : IndexDefinition) (t : Tables) (room : RoomOf) (told : SchemaStop) → definition_refusal d c.tables ≡ None → (AreRoomsKnown (knows base) room.area room.class all_rooms → HasNoRoom base c) → TellsRoom base room told → IsStopped base first c d t told
told_room base first c d t room (Missing need) none because tells = (none, tells.0)
told_room base first c d t room (Own refusal) none because tells = subst (IsNotIndexed base first c d t) (sym tells.0) (none, because tells.1)
told_room base first c d t room (Bad key) none because tells = absurd tells
told_room base first c d t room NoMemory none because tells = absurd tells

told_stop : (old : Over) (first : Lines) (c : Catalog) (d : IndexDefinition) (t : Tables) (stop : Stop Reply) (told : SchemaStop) → ((reply : Reply) → definition_refusal d c.tables ≡ Some reply → definition_refusal d t ≡ Some reply) →
    StopsDefining (knows_over old) (definition_refusal d c.tables) (index_rooms (new_index_area c.tables)) stop → Tells old.base stop told → IsStopped old.base first c d t told
told_stop old first c d t (Missing need) told too said tells =
    elim (next_in (knows_over old) (new_index_area c.tables) need said.1) as (λ o. IsStopped old.base first c d t told) [
      | inl own ↦ told_room old.base first c d t (index_room (new_index_area c.tables)) told said.0 (λ rooms. inr rooms) (subst (λ (x : Need). Tells old.base (Missing x) told) (sym own) tells)
      | inr own ↦ told_room old.base first c d t (catalog_room 0) told said.0 (λ rooms. inl rooms) (subst (λ (x : Need). Tells old.base (Missing x) told) (sym own) tells)
    ]
told_stop old first c d t (Bad key) told too said tells = absurd said
told_stop old first c d t NoMemory told too said tells = subst (IsStopped old.base first c d t) (sym tells) tt
told_stop old first c d t (Own reply) told too said tells = subst (IsStopped old.base first c d t) (sym tells) (too reply said)

pub index_stops : (old new : Over) (c : Catalog) (d : IndexDefinition) (stop : Stop Reply) (told : SchemaStop) → Tells old.base stop told → StopsDefining (knows_over old) (definition_refusal d c.tables) (index_rooms (new_index_area c.tables)) stop → DefinesIndex old new c d (Err told)
index_stops old new c d stop told tells said = λ t first view.
    told_stop old first c d t stop told (refused_too (laid_over old.lines first) c t d view.sound) said tells

-- ---- it is filled, or not

module _ (old mid : Over) (c : Catalog) (d : IndexDefinition) (writes given : List Write) (same : given ≡ writes) (none : definition_refusal d c.tables ≡ None) (written : IsIndexWritten (knows_over old) d.name (new_index d c.tables) writes) where
  -- the new index
  abbrev pub x : IndexLine
  x = record {
    area = new_index_area c.tables;
    relation = area_of (relation_named d.relation c.tables);
    unique = d.unique;
    root = written.root;
    fields = (new_index d c.tables).fields;
    name = d.name;
  }

  pub line : IsLineWritten (Index x) given
  line = subst (IsLineWritten (Index x)) (sym same) (line_written (knows_over old) 0 (Index x) writes written.line)

  module _ (t : Tables) (first : Lines) (view : IsSoundView old c t first) where
    abbrev all : Lines
    all = laid_over old.lines first

    pub root : written.root.area ≡ new_index_area c.tables
    root = view.stands.agrees.within (index_room (new_index_area c.tables)) written.root written.room

    pub there : (rel : Rows) × (relation_named d.relation t ≡ Some rel)
    there = let s = found d t (no_names all c t d view.sound none) in (s.rel, s.there)

    abbrev pub rel : Rows
    rel = there.0

    fields : fields_of (relation_named d.relation c.tables) ≡ rel.fields
    fields = fields_alike all c t d view.sound ∙ ap fields_of there.1

    pub keys : AllByRecursion (λ (e : Dbkey × Row). IsKey (key_of x.fields e.1)) rel.rows
    keys =
        subst (λ fs. AllByRecursion (λ (e : Dbkey × Row). IsKey (key_of (positions_of d.fields fs) e.1)) rel.rows) (sym fields)
        (keys_fit all c t d.relation rel d.fields view.sound there.1 (subst (λ o. longest_key d.fields (fields_of o) ≤ 120) there.1 (short all c t d view.sound none)))

    -- the keys that repeat in the meaning
    repeat : keys_repeat x.fields rel.rows ≡ keys_repeat (positions_of d.fields (fields_of (relation_named d.relation t))) (rows_of (relation_named d.relation t))
    repeat = λ i. keys_repeat (positions_of d.fields (fields_alike all c t d view.sound i)) (rows_of (sym there.1 i))

    filled : (result : Result (Unit {0}) SchemaStop) → FillsFromRows old mid c d.relation given result → RowsAdded old mid x first rel.rows result
    filled result fills = fills x line t rel first view there.1 keys

    refused : (told : SchemaStop) → RowsAdded old mid x first rel.rows (Err told) → IsStopped old.base first c d t told
    refused (Missing need) said = (none, said)
    refused (Bad key) said = said
    refused NoMemory said = tt
    refused (Own (Refused reply)) said = duplicate all c t d view.sound none said.1.0 (sym repeat ∙ said.1.1) ∙ ap Some (sym said.0)
    refused (Own NoRoom) said = absurd said
    refused (Own Full) said = (none, (x, root, said))

    once : IsFilled old mid first x rel.rows → d.unique ≡ true → keys_repeat (positions_of d.fields (fields_of (relation_named d.relation t))) (rows_of (relation_named d.relation t)) ≡ false
    once is unique = sym repeat ∙ is.once unique

    -- the map behind all writes
    defined : (left : Leaves all writes (with_index d c.tables)) (is : IsFilled old mid first x rel.rows) → IsSoundAs (laid_all (is.filling ++ writes) all) left.after (with_index d t)
    defined left is =
        index_defined (knows_over old) all c t d is.filling writes view.sound view.stands.agrees (first_none (index_names d c.tables) (index_refusal d c.tables) none).0 (unrefused all c t d view.sound none (once is)) written left
        (all_of (λ (w : Write). (w.key).area ≡ x.root.area) (λ (w : Write). (w.key).area ≡ new_index_area c.tables) (λ w own. own ∙ root) is.filling is.within)
        (subst (λ (l : Lines). IsIndexOf l written.root x.fields (rows_of (relation_named d.relation t))) is.laid
        (subst (IsIndexOf (laid_over mid.lines first) written.root x.fields) (ap rows_of (sym there.1)) is.index))

  pub filling_stops : (new : Over) (told : SchemaStop) → FillsFromRows old mid c d.relation given (Err told) → DefinesIndex old new c d (Err told)
  filling_stops new told fills = λ t first view. refused t first view told (filled t first view (Err told) fills)

  pub index_made : (new : Over) (put : List Write) → put ≡ writes → FillsFromRows old mid c d.relation given (Ok tt) → Stays mid new → AllLaid mid new put → Turns (knows_over old) c (with_index d c.tables) writes → DefinesIndex old new c d (Ok tt)
  index_made new put these fills stay laid turns = λ t first view.
      let is = filled t first view (Ok tt) fills in
      let left = turns (laid_over old.lines first) view.sound.sorted view.stands.agrees view.sound.decodes in
      let behind : laid_over new.lines first ≡ laid_all (is.filling ++ writes) (laid_over old.lines first) =
      laid first is.stands ∙ (λ i. laid_all (these i) (is.laid i)) ∙ sym (laid_in_turn is.filling writes (laid_over old.lines first)) in
      record {
        unrefused = all_unrefused (laid_over old.lines first) c t d view.sound none (once t first view is);
        catalog = left.after;
        behind = record {
          stands = stay first is.stands;
          sound = subst (λ (l : Lines). IsSoundAs l left.after (with_index d t)) (sym behind) (defined t first view left is);
        };
      }

-- ---- what the filling asks for

pub has_line : (known : Knowledge) (c : Catalog) (d : IndexDefinition) (writes given : List Write) → given ≡ writes → IsIndexWritten known d.name (new_index d c.tables) writes → (y : IndexLine) × IsLineWritten (Index y) given
has_line known c d writes given same written = (record { area = new_index_area c.tables; relation = area_of (relation_named d.relation c.tables); unique = d.unique; root = written.root; fields = (new_index d c.tables).fields; name = d.name }, subst (IsLineWritten (index_line d.name (new_index d c.tables) written.root)) (sym same) (line_written known 0 (index_line d.name (new_index d c.tables) written.root) writes written.line))

pub has_relation : (c : Catalog) (d : IndexDefinition) → definition_refusal d c.tables ≡ None → IsSome (relation_named d.relation c.tables)
has_relation c d none = subst IsSome (sym (found d c.tables (first_none (index_names d c.tables) (index_refusal d c.tables) none).0).there) refl
