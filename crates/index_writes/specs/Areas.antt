-- In which logical areas the definition of an index reads and writes lines.
use Rattle.std.specs.Prelude.{◌≡◌, List, [], ◌∷◌, map, Some, Result}
use Rattle.std.specs.List.{AllByRecursion}
use Rattle.rdb_types.specs.declared.keys.Dbkey.{Dbkey}
use Rattle.rdo_ast.specs.Tree.{Name}
use Rattle.rdo_ast.specs.declared.syntax.IndexDefinition.{IndexDefinition}
use Rattle.rdb_meaning.specs.declared.tables.Relation.{Relation as Rows}
use Rattle.rdb_meaning.specs.declared.tables.Tables.{Tables}
use Rattle.rdb_meaning.specs.Contents.{Row, relation_named, key_of, new_index_area}
use Rattle.rdb_meaning.specs.Execution.{area_of}
use Rattle.line_view.specs.declared.stop.Stop.{Stop}
use Rattle.line_view.specs.declared.stop.Never.{Never}
use Rattle.line_view.specs.declared.writes.Write.{Write}
use Rattle.line_view.specs.Knowledge.{Lines}
use Rattle.catalog_lines.specs.declared.line.IndexLine.{IndexLine}
use Rattle.catalog_lines.specs.declared.line.CatalogLine.TheVariants.{Index}
use Rattle.catalog.specs.declared.reading.Catalog.{Catalog}
use Rattle.catalog.specs.Reading.{catalog_area}
use Rattle.sorted_index_laws.specs.Insertion.{IsKey}
use Rattle.relation_rows.specs.declared.stored.StoredRow.{StoredRow}
use Rattle.relation_rows.specs.Indexed.{IsIndexOf}
use Rattle.relation_rows.specs.Relations.{stored_row}
use Rattle.statement_view.specs.Over.{Over, Stands, laid_over}
use Rattle.statement_view.specs.Areas.{KeepsTo}
use Rattle.row_writes.specs.Rows.{IsSoundView}
use Rattle.schema_writes.specs.Stop.{SchemaStop}
use Rattle.index_writes.specs.Reading.{IsLineWritten}
use Rattle.index_writes.specs.Filling.{AreFitting}

-- ---- the rows

-- over each map with this catalog the area of the relation of this name is read
abbrev pub ReadKeeps : Over → Catalog → Name → Result (List StoredRow) (Stop Never) → Type 0
ReadKeeps o c n result = (t : Tables) (rel : Rows) (first : Lines) → IsSoundView o c t first → relation_named n t ≡ Some rel → KeepsTo (rel.area ∷ []) [] o o result

-- ---- the nodes

abbrev pub KeepsToNodes : Over → Over → IndexLine → Result (Unit {0}) SchemaStop → Type 0
KeepsToNodes old new x result = KeepsTo (x.root.area ∷ []) (x.root.area ∷ []) old new result

-- the filling of an index of no rows, or of one of which nothing is written, keeps to its area
abbrev pub RowsKeep : Over → Over → IndexLine → List StoredRow → Result (Unit {0}) SchemaStop → Type 0
RowsKeep old new x given result = (first : Lines) (rows : List (Dbkey × Row)) → given ≡ map stored_row rows → AreFitting x rows → Stands old first → IsIndexOf (laid_over old.lines first) x.root x.fields [] → KeepsToNodes old new x result

abbrev pub FillKeeps : Over → Over → IndexLine → List StoredRow → Result (Unit {0}) SchemaStop → Type 0
FillKeeps old new x given result = (first : Lines) (rows : List (Dbkey × Row)) → given ≡ map stored_row rows → AreFitting x rows → Stands old first → KeepsToNodes old new x result

-- the relation's rows are read too
abbrev pub FillFromKeeps : Over → Over → Catalog → Name → List Write → Result (Unit {0}) SchemaStop → Type 0
FillFromKeeps old new c n writes result = (x : IndexLine) → IsLineWritten (Index x) writes → (t : Tables) (rel : Rows) (first : Lines) → IsSoundView old c t first → relation_named n t ≡ Some rel → AllByRecursion (λ e. IsKey (key_of x.fields e.1)) rel.rows →
    KeepsTo (rel.area ∷ x.root.area ∷ []) (x.root.area ∷ []) old new result

-- ---- the definition

-- Over each map with this catalog, lines are read in the area of the relation and in that of the new index, and changed in the latter and in the catalog's.
abbrev pub IndexKeeps : Over → Over → Catalog → IndexDefinition → Result (Unit {0}) SchemaStop → Type 0
IndexKeeps old new c d result = (t : Tables) (first : Lines) → IsSoundView old c t first →
    KeepsTo (area_of (relation_named d.relation t) ∷ new_index_area t ∷ []) (new_index_area t ∷ catalog_area ∷ []) old new result
