-- The sources of selections, as a catalog has them.
use Rattle.std.specs.Prelude.{◌≡◌, ℕ, map, Some}
use Rattle.rdb_meaning.specs.declared.tables.Relation.{Relation as Rows}
use Rattle.rdb_meaning.specs.declared.tables.Tables.{Tables}
use Rattle.line_view.specs.Knowledge.{Lines}
use Rattle.catalog.specs.declared.reading.Catalog.{Catalog}
use Rattle.rdo_select.specs.declared.source.Source.{Source}
use Rattle.rdo_select.specs.Sources.{Listed, source_at, IsSourceOf}
use Rattle.stored_schema.specs.Indexes.{path_of, lines_on}

-- each source is that of a relation of the tables
abbrev pub AreOfTables : Lines → Tables → Listed → Type 0
AreOfTables all t sources = (area : ℕ) (source : Source) → source_at area sources ≡ Some source → (rel : Rows) × IsSourceOf all rel source

-- each source has all indexes of its logical area, in the order of their definition
abbrev pub AreIndexed : Catalog → Listed → Type 0
AreIndexed c sources = (area : ℕ) (source : Source) → source_at area sources ≡ Some source → source.indexes.now ≡ map path_of (lines_on area c.lines)
