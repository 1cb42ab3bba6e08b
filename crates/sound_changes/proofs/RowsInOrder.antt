-- The rows of a relation stand in the order of their Dbkeys.
use Rattle.std.proofs.Common.{◌≡◌, ◌==◌, true, Some, T, sym, subst, ◌∙◌}
use Rattle.std.specs.FinMap.Entries.{is_sorted, is_sorted-where_key}
use Rattle.rdb_types.specs.Order.{dbkey_order}
use Rattle.rdo_ast.specs.Tree.{Name}
use Rattle.rdb_meaning.specs.declared.tables.Relation.{Relation as Rows}
use Rattle.rdb_meaning.specs.declared.tables.Tables.{Tables}
use Rattle.rdb_meaning.specs.Contents.{relation_named}
use Rattle.line_view.specs.Knowledge.{Lines, lines_in}
use Rattle.catalog_lines.specs.declared.line.CatalogLine.{CatalogLine}
use Rattle.sound_lines.specs.catalog.declared.reading.Catalog.{Catalog}
use Rattle.sound_lines.specs.Contents.{versions_in}
use Rattle.sound_lines.proofs.Gathering.{same_sorted, true_from_T}
use Rattle.sound_changes.specs.Standing.{IsSoundFor}
use Rattle.sound_changes.proofs.Changed.{row_keys, rows_in}
use Rattle.sound_changes.proofs.RowLaid.{stored_in}

pub rows_in_order : (all : Lines) (c : Catalog) (t : Tables) (n : Name) (rel : Rows) (seen : CatalogLine → Tables) → IsSoundFor all c t seen → relation_named n t ≡ Some rel → is_sorted dbkey_order rel.rows ≡ true
rows_in_order all c t n rel seen sound is =
    same_sorted dbkey_order rel.rows (lines_in rel.area all)
    (sym (row_keys (stored_in c n rel) (lines_in rel.area all) rel.rows (rows_in all (versions_in c.lines) n rel c.tables.relations t.relations sound.are.relations is)))
    ∙ true_from_T _ (is_sorted-where_key dbkey_order (λ k. k.area == rel.area) all (subst T (sym sound.sorted) tt))
