-- The catalog lines that definitions write.
use Rattle.std.specs.Prelude.{◌≡◌, ◌≤◌, ℕ, ◌+◌, List, [], ◌∷◌, map, length, Some}
use Rattle.std.specs.List.{AllByRecursion}
use Rattle.rdb_types.specs.declared.keys.Dbkey.{Dbkey}
use Rattle.rdb_types.specs.declared.values.Field.{Field}
use Rattle.rdb_types.specs.declared.values.FieldType.{FieldType}
use Rattle.line_view.specs.Knowledge.{Knowledge}
use Rattle.rdo_ast.specs.Tree.{Name}
use Rattle.rdo_ast.specs.declared.syntax.FieldDefinition.{FieldDefinition}
use Rattle.rdo_ast.specs.declared.syntax.IndexDefinition.{IndexDefinition}
use Rattle.rdo_ast.specs.declared.syntax.DefinedType.{DefinedType}
use Rattle.rdo_ast.specs.declared.syntax.DefinedType.TheVariants.{Own, BasedOn}
use Rattle.line_view.specs.declared.need.Room.{Room}
use Rattle.line_view.specs.declared.writes.Write.{Write}
use Rattle.rdb_meaning.specs.declared.tables.Index.{Index as IndexOf}
use Rattle.rdb_meaning.specs.declared.tables.Tables.{Tables}
use Rattle.rdb_meaning.specs.Contents.{class_of, new_relation_area}
use Rattle.rdb_meaning.specs.Defining.{new_field}
use Rattle.catalog_lines.specs.Parts.{IsName, IsType}
use Rattle.catalog_lines.specs.declared.line.CatalogLine.{CatalogLine}
use Rattle.catalog_lines.specs.declared.line.CatalogLine.TheVariants.{Relation, Global, Field as FieldOf, Index}
use Rattle.catalog_lines.specs.Lines.{IsCatalogLine}
use Rattle.catalog_definitions.specs.Causes.{catalog_room}

-- the line is written on this line of the database
pub record IsWritten (line : CatalogLine) (write : Write) : Type 0 where
  pub bytes : List ℕ
  pub present : write.image ≡ Some bytes
  pub decodes : IsCatalogLine bytes line

-- Each line is written on its room, from this one on, and no more is.
abbrev pub AreWritten : Knowledge → ℕ → List CatalogLine → List Write → Type 0
AreWritten known nth [] [] = Unit {0}
AreWritten known nth [] (write ∷ writes) = ⊥
AreWritten known nth (line ∷ lines) [] = ⊥
AreWritten known nth (line ∷ lines) (write ∷ writes) =
    (known.room (catalog_room nth) ≡ Some write.key) × IsWritten line write × AreWritten known (nth + 1) lines writes

-- ---- DEFINE FIELD

abbrev pub global_line : Name → FieldType → CatalogLine
global_line name kind = Global (record { kind = kind; name = name })

-- ---- DEFINE INDEX

-- the root of an index is the first room of its logical area
abbrev pub index_room : ℕ → Room
index_room area = record { area = area; class = 440; nth = 0 }

abbrev pub index_line : Name → IndexOf → Dbkey → CatalogLine
index_line name index root =
    Index (record { area = index.area; relation = index.relation; unique = index.unique; root = root; fields = index.fields; name = name })

-- The line of the index is written, and no more is. Its root is the room of its logical area.
pub record IsIndexWritten (known : Knowledge) (name : Name) (index : IndexOf) (writes : List Write) : Type 0 where
  pub root : Dbkey
  pub room : known.room (index_room index.area) ≡ Some root
  pub line : AreWritten known 0 (index_line name index root ∷ []) writes

-- the root's room, and that of the index's line
abbrev pub index_rooms : ℕ → List Room
index_rooms area = index_room area ∷ catalog_room 0 ∷ []

-- a definition that the language allows: a name, and 1 to 8 fields
pub record IsIndexDefinition (d : IndexDefinition) : Type 0 where
  pub name : IsName d.name
  pub count : (1 ≤ length d.fields) × (length d.fields ≤ 8)

-- ---- DEFINE RELATION

-- a field's line for each field, from this position on
abbrev pub field_lines : ℕ → ℕ → List Field → List CatalogLine
field_lines area position [] = []
field_lines area position (f ∷ fs) = FieldOf (record { relation = area; position = position; field = f }) ∷ field_lines area (position + 1) fs

-- the relation's line, and those of its fields
abbrev pub lines_of_relation : ℕ → Name → List Field → List CatalogLine
lines_of_relation area name fields = Relation (record { area = area; class = class_of fields; version = 1; name = name }) ∷ field_lines area 0 fields

abbrev pub relation_lines : Name → List FieldDefinition → Tables → List CatalogLine
relation_lines name definitions t = lines_of_relation (new_relation_area t) name (map (new_field t) definitions)

abbrev pub IsOwnType : DefinedType → Type 0
IsOwnType (Own kind) = IsType kind
IsOwnType (BasedOn global) = Unit {0}

pub record IsFieldDefinition (f : FieldDefinition) : Type 0 where
  pub name : IsName f.name
  pub kind : IsOwnType f.kind

-- a definition that the language allows: names, types, and 1 to 50 fields
pub record IsRelationDefinition (n : Name) (definitions : List FieldDefinition) : Type 0 where
  pub name : IsName n
  pub count : (1 ≤ length definitions) × (length definitions ≤ 50)
  pub fields : AllByRecursion IsFieldDefinition definitions
