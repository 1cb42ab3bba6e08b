-- Which relation of the tables stands on which lines.
use Rattle.std.specs.Prelude.{◌≡◌, map}
use Rattle.rdb_types.specs.declared.keys.Dbkey.{Dbkey}
use Rattle.rdb_meaning.specs.declared.tables.Relation.{Relation}
use Rattle.rdb_meaning.specs.Contents.{Row}
use Rattle.sorted_index_laws.specs.line_view.Knowledge.{Lines, lines_in}
use Rattle.relation_rows.specs.declared.stored.StoredRelation.{StoredRelation}
use Rattle.relation_rows.specs.declared.stored.StoredRow.{StoredRow}
use Rattle.relation_rows.specs.Stored.{AreRowsOf}

abbrev pub stored_row : Dbkey × Row → StoredRow
stored_row e = record { key = e.0; row = e.1 }

-- The relation of the tables has this area and these fields, and the rows that the lines of its area are.
pub record HasRows (all : Lines) (r : StoredRelation) (rel : Relation) : Type 0 where
  pub area : r.area ≡ rel.area
  pub fields : r.fields.now ≡ rel.fields
  pub rows : AreRowsOf r (lines_in r.area all) (map stored_row rel.rows)
