-- The lines of the catalog that a deletion erases.
use Rattle.std.specs.Prelude.{ℕ, Bool, false, ◌==◌, List, filter}
use Rattle.rdb_types.specs.declared.keys.Dbkey.{Dbkey}
use Rattle.rdo_ast.specs.Tree.{Name}
use Rattle.rdb_definitions.specs.rdb_meaning.Contents.{same_name}
use Rattle.catalog_lines.specs.declared.line.CatalogLine.{CatalogLine}
use Rattle.catalog_lines.specs.declared.line.CatalogLine.TheVariants.{Relation, Global, Field as FieldOf, Index}
use Rattle.catalog.specs.declared.directory.PlacedLine.{PlacedLine}
use Rattle.catalog.specs.Reading.{line_keys}

-- the line of a relation, of a field of it, or of an index on it
abbrev pub is_of_relation : ℕ → CatalogLine → Bool
is_of_relation area (Relation r) = r.area == area
is_of_relation area (Global g) = false
is_of_relation area (FieldOf f) = f.relation == area
is_of_relation area (Index x) = x.relation == area

abbrev pub is_index_named : Name → CatalogLine → Bool
is_index_named name (Relation r) = false
is_index_named name (Global g) = false
is_index_named name (FieldOf f) = false
is_index_named name (Index x) = same_name name x.name

-- the Dbkeys of the lines for which this holds
abbrev pub keys_where : (CatalogLine → Bool) → List PlacedLine → List Dbkey
keys_where holds ps = line_keys (filter (λ p. holds p.line) ps)
