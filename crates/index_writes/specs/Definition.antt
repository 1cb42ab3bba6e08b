-- The definition of an index over the view of a statement, for every map of lines that goes with the view.
use Rattle.std.specs.Prelude.{◌≡◌, ◌⊎◌, List, Some, None, Result}
use Rattle.std.specs.List.{AllByRecursion}
use Rattle.rdo_ast.specs.Tree.{Name}
use Rattle.rdo_ast.specs.declared.syntax.IndexDefinition.{IndexDefinition}
use Rattle.rdb_meaning.specs.declared.tables.Relation.{Relation as Rows}
use Rattle.rdb_meaning.specs.declared.tables.Tables.{Tables}
use Rattle.rdb_meaning.specs.Contents.{relation_named, key_of, new_index_area}
use Rattle.rdb_meaning.specs.Checks.{Refusal, or_else}
use Rattle.rdb_meaning.specs.Defining.{index_names, index_refusal, with_index}
use Rattle.line_view.specs.declared.writes.Write.{Write}
use Rattle.line_view.specs.Knowledge.{Lines}
use Rattle.line_view.specs.Held.{Held, knows}
use Rattle.line_view.specs.Stops.{Answers, Lacks}
use Rattle.catalog_lines.specs.declared.line.IndexLine.{IndexLine}
use Rattle.catalog_lines.specs.declared.line.CatalogLine.TheVariants.{Index}
use Rattle.catalog.specs.declared.reading.Catalog.{Catalog}
use Rattle.catalog.specs.Reading.{catalog_area}
use Rattle.catalog_definitions.specs.Causes.{catalog_room}
use Rattle.catalog_definitions.specs.Written.{index_room}
use Rattle.sorted_index_laws.specs.Insertion.{IsKey}
use Rattle.statement_view.specs.Over.{Over, all_rooms, AreRoomsKnown}
use Rattle.row_writes.specs.Rows.{IsSoundView}
use Rattle.row_writes.specs.Pairs.{CanNotGrow}
use Rattle.schema_writes.specs.declared.stop.SchemaRefusal.{SchemaRefusal}
use Rattle.schema_writes.specs.declared.stop.SchemaRefusal.TheVariants.{Refused, NoRoom, Full}
use Rattle.schema_writes.specs.Stop.{SchemaStop}
use Rattle.schema_writes.specs.Definitions.{IsCarriedOut}
use Rattle.index_writes.specs.Reading.{IsLineWritten}
use Rattle.index_writes.specs.Filling.{RowsAdded}

-- ---- the nodes

-- Over each map with this catalog, the index whose line is written is filled from the rows of the relation, if it may have their keys.
abbrev pub FillsFromRows : Over → Over → Catalog → Name → List Write → Result (Unit {0}) SchemaStop → Type 0
FillsFromRows old new c n writes result = (x : IndexLine) → IsLineWritten (Index x) writes → (t : Tables) (rel : Rows) (first : Lines) → IsSoundView old c t first → relation_named n t ≡ Some rel →
    AllByRecursion (λ e. IsKey (key_of x.fields e.1)) rel.rows → RowsAdded old new x first rel.rows result

-- ---- the definition

-- what the meaning refuses: names, then a key that may be too long, then keys that repeat
abbrev pub definition_refusal : IndexDefinition → Tables → Refusal
definition_refusal d t = or_else (index_names d t) (index_refusal d t)

-- all numbers of rooms of the catalog are known, or of the new index
abbrev pub HasNoRoom : Held → Catalog → Type 0
HasNoRoom base c = AreRoomsKnown (knows base) catalog_area (catalog_room 0).class all_rooms ⊎ AreRoomsKnown (knows base) (new_index_area c.tables) (index_room 0).class all_rooms

-- an index in the new logical area can't grow over this map
abbrev pub IsFullIn : Held → Lines → Catalog → Type 0
IsFullIn base first c = (x : IndexLine) × (x.root.area ≡ new_index_area c.tables) × CanNotGrow base first x

-- The meaning refuses so in the tables with their rows. Else the catalog refuses nothing, and there are no rooms.
abbrev pub IsNotIndexed : Held → Lines → Catalog → IndexDefinition → Tables → SchemaRefusal → Type 0
IsNotIndexed base first c d t (Refused reply) = definition_refusal d t ≡ Some reply
IsNotIndexed base first c d t NoRoom = (definition_refusal d c.tables ≡ None) × HasNoRoom base c
IsNotIndexed base first c d t Full = (definition_refusal d c.tables ≡ None) × IsFullIn base first c

-- Over each map with this catalog: what the catalog refuses is refused before anything is named that isn't known; what the meaning refuses in the tables with their rows is refused, and else the tables of the meaning are left.
abbrev pub DefinesIndex : Over → Over → Catalog → IndexDefinition → Result (Unit {0}) SchemaStop → Type 0
DefinesIndex old new c d result = (t : Tables) (first : Lines) → IsSoundView old c t first →
    Answers (λ u. IsCarriedOut new (definition_refusal d t) (with_index d t) first) (λ need. (definition_refusal d c.tables ≡ None) × Lacks (knows old.base) need) (λ key. ⊥) (IsNotIndexed old.base first c d t) result
