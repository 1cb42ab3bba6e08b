-- What the lines of the catalog stand for, and which of them don't go with the others.
use Rattle.std.specs.Prelude.{ℕ, zero, suc, ◌+◌, ◌-◌, Bool, true, false, not, ◌&&◌, ◌||◌, ◌==◌, if◌then◌else◌, nat_eq, List, [], ◌∷◌, Option, Some, None, is_some}
use Rattle.std.specs.List.{list_any, list_all}
use Rattle.std.specs.Ordering.{is_eq}
use Rattle.std.specs.FinMap.Entries.{find, put}
use Rattle.rdb_types.specs.declared.keys.Dbkey.{Dbkey}
use Rattle.rdb_types.specs.declared.values.Field.{Field}
use Rattle.rdb_types.specs.Order.{dbkey_order, chars_order}
use Rattle.rdb_definitions.specs.rdb_meaning.declared.tables.Tables.{Tables}
use Rattle.rdb_definitions.specs.rdb_meaning.declared.tables.Index.{Index as IndexOf}
use Rattle.rdb_definitions.specs.rdb_meaning.Contents.{same_name, no_tables, relation_named, fields_of}
use Rattle.rdb_definitions.specs.rdb_meaning.Execution.{area_of}
use Rattle.catalog_lines.specs.declared.line.RelationLine.{RelationLine}
use Rattle.catalog_lines.specs.declared.line.GlobalLine.{GlobalLine}
use Rattle.catalog_lines.specs.declared.line.FieldLine.{FieldLine}
use Rattle.catalog_lines.specs.declared.line.IndexLine.{IndexLine}
use Rattle.catalog_lines.specs.declared.line.CatalogLine.{CatalogLine}
use Rattle.catalog_lines.specs.declared.line.CatalogLine.TheVariants.{Relation, Global, Field as FieldOf, Index}
use Rattle.catalog.specs.declared.directory.FieldPlace.{FieldPlace}
use Rattle.catalog.specs.declared.directory.PlacedField.{PlacedField}
use Rattle.catalog.specs.declared.directory.PlacedLine.{PlacedLine}
use Rattle.catalog.specs.declared.directory.Directory.{Directory}
use Rattle.catalog.specs.Directory.{area_order, place_order, numbered, place, directory}

-- ---- the schema

abbrev pub max_fields : ℕ
max_fields = 50

abbrev pub next_field : Option PlacedField → List Field → List Field
next_field None rest = []
next_field (Some found) rest = found.field ∷ rest

-- The fields of a relation in the order of their positions: from this position on, up to the first that has none, and no more than so many.
abbrev pub fields_from : ℕ → ℕ → ℕ → List (FieldPlace × PlacedField) → List Field
fields_from zero relation position fields = []
fields_from (suc more) relation position fields = next_field (find place_order (place relation position) fields) (fields_from more relation (position + 1) fields)

unfoldable pub relation_fields : ℕ → Directory → List Field
relation_fields relation d = fields_from max_fields relation 0 d.fields

-- A relation has no rows here. Where two lines give one name, the later one counts.
abbrev pub with_thing : Directory → CatalogLine → Tables → Tables
with_thing d (Relation r) t = record t { relations = put chars_order r.name (record { area = r.area; fields = relation_fields r.area d; rows = [] }) t.relations }
with_thing d (Global g) t = record t { globals = put chars_order g.name g.kind t.globals }
with_thing d (FieldOf f) t = t
with_thing d (Index x) t = record t { indexes = put chars_order x.name (record { area = x.area; relation = x.relation; unique = x.unique; fields = x.fields }) t.indexes }

abbrev pub tables_from : Directory → Tables → List PlacedLine → Tables
tables_from d t [] = t
tables_from d t (p ∷ ps) = tables_from d (with_thing d p.line t) ps

-- the tables that the lines stand for, without rows
abbrev pub catalog_tables : List PlacedLine → Tables
catalog_tables ps = tables_from (directory ps) no_tables ps

-- ---- whether a line goes with the others

abbrev pub is_key : Dbkey → Option Dbkey → Bool
is_key key (Some other) = is_eq (dbkey_order key other)
is_key key None = false

abbrev pub is_field_key : Dbkey → Option PlacedField → Bool
is_field_key key (Some found) = is_eq (dbkey_order key found.key)
is_field_key key None = false

abbrev pub index_area : Option IndexOf → ℕ
index_area (Some x) = x.area
index_area None = 0

abbrev pub has_field : ℕ → Directory → ℕ → Bool
has_field relation d position = is_some (find place_order (place relation position) d.fields)

-- A relation of a field or an index has an even area, and so no index stands there.
abbrev pub has_area : ℕ → Directory → Bool
has_area area d = is_some (find area_order (numbered area) d.areas)

abbrev pub differ : {A : Type 0} → (A → A → Bool) → List A → Bool
differ same [] = true
differ same (x ∷ xs) = not (list_any (same x) xs) && differ same xs

abbrev pub same_field : Field → Field → Bool
same_field f g = same_name f.name g.name

-- It is the relation of its name and of its area, with 1 to 50 fields that differ in name.
abbrev pub relation_stands : Directory → Tables → Dbkey → RelationLine → Bool
relation_stands d t key r =
    area_of (relation_named r.name t) == r.area
    && is_key key (find area_order (numbered r.area) d.areas)
    && has_field r.area d 0
    && not (has_field r.area d max_fields)
    && differ same_field (fields_of (relation_named r.name t))

-- It is the global field of its name.
abbrev pub global_stands : Directory → Dbkey → GlobalLine → Bool
global_stands d key g = is_key key (find chars_order g.name d.globals)

-- It is the field of its place, its relation is there, and the position before its own has a field.
abbrev pub field_stands : Directory → Dbkey → FieldLine → Bool
field_stands d key f =
    is_field_key key (find place_order (place f.relation f.position) d.fields)
    && has_area f.relation d
    && (f.position == 0 || has_field f.relation d (f.position - 1))

-- It is the index of its name and of its area, its relation is there, its positions differ and have fields, and its root is in its area.
abbrev pub index_stands : Directory → Tables → Dbkey → IndexLine → Bool
index_stands d t key x =
    index_area (find chars_order x.name t.indexes) == x.area
    && is_key key (find area_order (numbered x.area) d.areas)
    && has_area x.relation d
    && differ nat_eq x.fields
    && list_all (has_field x.relation d) x.fields
    && x.root.area == x.area

abbrev pub stands : Directory → Tables → Dbkey → CatalogLine → Bool
stands d t key (Relation r) = relation_stands d t key r
stands d t key (Global g) = global_stands d key g
stands d t key (FieldOf f) = field_stands d key f
stands d t key (Index x) = index_stands d t key x

abbrev pub misfit_from : Directory → Tables → List PlacedLine → Option Dbkey
misfit_from d t [] = None
misfit_from d t (p ∷ ps) = if stands d t p.key p.line then misfit_from d t ps else Some p.key

-- the first line that doesn't go with the others
abbrev pub misfit : List PlacedLine → Option Dbkey
misfit ps = misfit_from (directory ps) (catalog_tables ps) ps
