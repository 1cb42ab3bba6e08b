-- The logical areas of sources, which are those of the tables.
use Rattle.std.specs.Prelude.{◌≡◌, ℕ, List, [], ◌∷◌, map, Option, Some, None}
use Rattle.rdo_ast.specs.Tree.{Name}
use Rattle.rdb_meaning.specs.declared.tables.Relation.{Relation}
use Rattle.rdb_meaning.specs.declared.tables.Tables.{Tables}
use Rattle.rdb_meaning.specs.Contents.{relation_named}
use Rattle.access_paths.specs.declared.choice.IndexPath.{IndexPath}
use Rattle.used_areas.specs.Areas.{relation_areas}
use Rattle.rdo_select.specs.declared.source.Source.{Source}
use Rattle.rdo_select.specs.Sources.{Listed, source_at}

-- the area of its relation, and those of its indexes
abbrev pub areas_of_source : Source → List ℕ
areas_of_source source = source.relation.area ∷ map (λ (x : IndexPath). x.root.area) source.indexes.now

abbrev pub areas_at : Option Source → List ℕ
areas_at (Some source) = areas_of_source source
areas_at None = []

-- the areas of the source of each relation of the tables are those of the relation and of its indexes
abbrev pub ArePlaced : Tables → Listed → Type 0
ArePlaced t sources = (n : Name) (rel : Relation) → relation_named n t ≡ Some rel → areas_at (source_at rel.area sources) ≡ relation_areas t (Some rel)
