-- What a new index is filled from.
use Rattle.std.specs.Prelude.{◌≡◌, List, [], ◌∷◌, map, Some, Result}
use Rattle.rdo_ast.specs.Tree.{Name}
use Rattle.rdb_meaning.specs.declared.tables.Relation.{Relation as Rows}
use Rattle.rdb_meaning.specs.declared.tables.Tables.{Tables}
use Rattle.rdb_meaning.specs.Contents.{relation_named}
use Rattle.line_view.specs.declared.stop.Stop.{Stop}
use Rattle.line_view.specs.declared.stop.Never.{Never}
use Rattle.line_view.specs.declared.writes.Write.{Write}
use Rattle.line_view.specs.Knowledge.{Lines}
use Rattle.line_view.specs.Held.{knows}
use Rattle.line_view.specs.Stops.{Answers, Lacks}
use Rattle.catalog_lines.specs.declared.line.CatalogLine.{CatalogLine}
use Rattle.catalog.specs.declared.reading.Catalog.{Catalog}
use Rattle.catalog_definitions.specs.Written.{IsWritten}
use Rattle.relation_rows.specs.declared.stored.StoredRow.{StoredRow}
use Rattle.relation_rows.specs.Relations.{stored_row}
use Rattle.statement_view.specs.Over.{Over}
use Rattle.row_writes.specs.Rows.{IsSoundView}

-- there is one write, and it is of this line
abbrev pub IsLineWritten : CatalogLine → List Write → Type 0
IsLineWritten line [] = ⊥
IsLineWritten line (write ∷ []) = IsWritten line write
IsLineWritten line (write ∷ other ∷ writes) = ⊥

-- Over each map with this catalog, these are the rows of the relation of this name.
abbrev pub ReadsRows : Over → Catalog → Name → Result (List StoredRow) (Stop Never) → Type 0
ReadsRows o c n result = (t : Tables) (rel : Rows) (first : Lines) → IsSoundView o c t first → relation_named n t ≡ Some rel →
    Answers (λ rows. rows ≡ map stored_row rel.rows) (Lacks (knows o.base)) (λ key. ⊥) (λ never. ⊥) result
