-- The lines of the catalog, as images.
use Rattle.std.specs.Prelude.{ℕ, ◌%◌, ◌≤◌, ◌≡◌, ◌⊎◌, List, ◌∷◌, ◌++◌, length}
use Rattle.slot_fields.specs.Fields.{Field, number, Has}
use Rattle.record_format.specs.Rows.{IsVersion}
use Rattle.record_format.specs.Dbkeys.{dbkey_fields}
use Rattle.catalog_lines.specs.declared.line.RelationLine.{RelationLine}
use Rattle.catalog_lines.specs.declared.line.GlobalLine.{GlobalLine}
use Rattle.catalog_lines.specs.declared.line.FieldLine.{FieldLine}
use Rattle.catalog_lines.specs.declared.line.IndexLine.{IndexLine}
use Rattle.catalog_lines.specs.declared.line.CatalogLine.{CatalogLine}
use Rattle.catalog_lines.specs.declared.line.CatalogLine.TheVariants.{Relation, Global, Field as FieldOf, Index}
use Rattle.catalog_lines.specs.Parts.{IsName, IsType, name_fields, type_fields, flag_byte, positions_fields}

-- a relation's lines are of one of the two classes
abbrev pub IsClass : ℕ → Type 0
IsClass class = (class ≡ 208) ⊎ (class ≡ 440)

-- Logical areas: even ones from 16 on are those of relations, odd ones from 17 on those of indexes.
abbrev pub IsRelationArea : ℕ → Type 0
IsRelationArea area = (16 ≤ area) × (area % 2 ≡ 0)

abbrev pub IsIndexArea : ℕ → Type 0
IsIndexArea area = (17 ≤ area) × (area % 2 ≡ 1)

-- ---- the fields of each kind of line

abbrev pub relation_fields : RelationLine → List Field
relation_fields r = number 1 1 ∷ number 4 r.area ∷ number 2 r.class ∷ number 2 r.version ∷ name_fields r.name

abbrev pub global_fields : GlobalLine → List Field
global_fields g = number 1 2 ∷ (type_fields g.kind ++ name_fields g.name)

abbrev pub field_fields : FieldLine → List Field
field_fields f = number 1 3 ∷ number 4 f.relation ∷ number 2 f.position ∷ number 2 f.field.version ∷ (type_fields f.field.kind ++ name_fields f.field.name)

abbrev pub index_fields : IndexLine → List Field
index_fields x =
    number 1 4 ∷ number 4 x.area ∷ number 4 x.relation ∷ number 1 (flag_byte x.unique)
    ∷ (dbkey_fields x.root ++ number 1 (length x.fields) ∷ (positions_fields x.fields ++ name_fields x.name))

abbrev pub line_fields : CatalogLine → List Field
line_fields (Relation r) = relation_fields r
line_fields (Global g) = global_fields g
line_fields (FieldOf f) = field_fields f
line_fields (Index x) = index_fields x

-- ---- what each kind of line may say

pub record IsRelationLine (r : RelationLine) : Type 0 where
  pub area : IsRelationArea r.area
  pub class : IsClass r.class
  pub version : IsVersion r.version
  pub name : IsName r.name

pub record IsGlobalLine (g : GlobalLine) : Type 0 where
  pub kind : IsType g.kind
  pub name : IsName g.name

pub record IsFieldLine (f : FieldLine) : Type 0 where
  pub relation : IsRelationArea f.relation
  pub version : IsVersion f.field.version
  pub kind : IsType f.field.kind
  pub name : IsName f.field.name

pub record IsIndexLine (x : IndexLine) : Type 0 where
  pub area : IsIndexArea x.area
  pub relation : IsRelationArea x.relation
  pub count : (1 ≤ length x.fields) × (length x.fields ≤ 8)
  pub name : IsName x.name

abbrev pub IsAllowedLine : CatalogLine → Type 0
IsAllowedLine (Relation r) = IsRelationLine r
IsAllowedLine (Global g) = IsGlobalLine g
IsAllowedLine (FieldOf f) = IsFieldLine f
IsAllowedLine (Index x) = IsIndexLine x

-- the bytes are the image of this line
pub record IsCatalogLine (bytes : List ℕ) (line : CatalogLine) : Type 0 where
  pub fields : Has (line_fields line) bytes
  pub allowed : IsAllowedLine line
