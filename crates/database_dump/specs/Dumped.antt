-- What the dump of a database says.
use Rattle.std.specs.Prelude.{ℕ, List, map, length}
use Rattle.rdo_ast.specs.Tree.{Name}
use Rattle.rdb_meaning.specs.declared.tables.Relation.{Relation}
use Rattle.rdb_meaning.specs.declared.tables.Index.{Index}
use Rattle.root_file.specs.declared.Root.{Root}
use Rattle.line_view.specs.Knowledge.{Lines, lines_in}
use Rattle.catalog.specs.declared.reading.Catalog.{Catalog}
use Rattle.rmu_texts.specs.declared.dump.Counted.{Counted}
use Rattle.rmu_texts.specs.declared.dump.Dump.{Dump}

abbrev pub counted : Lines → Name → ℕ → Counted
counted all name area = record { name = name; area = area; lines = length (lines_in area all) }

-- the relations and the indexes by their names, each with its logical area and how many lines are present there
abbrev pub relations_counted : Lines → List (Name × Relation) → List Counted
relations_counted all relations = map (λ e. counted all e.0 e.1.area) relations

abbrev pub indexes_counted : Lines → List (Name × Index) → List Counted
indexes_counted all indexes = map (λ e. counted all e.0 e.1.area) indexes

-- of this root, of the map that has this catalog, and with so many whole groups
abbrev pub dump_of : Root → Lines → Catalog → ℕ → Dump
dump_of root all c groups = record { root = root; relations = relations_counted all c.tables.relations; indexes = indexes_counted all c.tables.indexes; groups = groups }
