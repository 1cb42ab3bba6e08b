-- What makes a full map of lines sound.
use Rattle.std.specs.Prelude.{◌≡◌, ◌≤◌, ◌%◌, ◌==◌, ℕ, Bool, true, false, ◌&&◌, nat_le, if◌then◌else◌, List, [], ◌∷◌, length, sum_by, Option, Some, None, IsSome, slice_get}
use Rattle.std.specs.List.{AllByRecursion}
use Rattle.rdb_types.specs.declared.keys.Dbkey.{Dbkey}
use Rattle.rdb_types.specs.declared.values.Field.{Field}
use Rattle.rdo_ast.specs.Tree.{Name}
use Rattle.rdb_meaning.specs.declared.tables.Relation.{Relation as Rows}
use Rattle.rdb_meaning.specs.declared.tables.Tables.{Tables}
use Rattle.rdb_meaning.specs.Contents.{rows_of, fields_of, longest_value, class_of}
use Rattle.rdb_meaning.specs.Defining.{keys_repeat}
use Rattle.line_view.specs.Knowledge.{Lines}
use Rattle.catalog_lines.specs.declared.line.RelationLine.{RelationLine}
use Rattle.catalog_lines.specs.declared.line.IndexLine.{IndexLine}
use Rattle.catalog_lines.specs.declared.line.CatalogLine.{CatalogLine}
use Rattle.catalog_lines.specs.declared.line.CatalogLine.TheVariants.{Relation, Global, Field as FieldOf, Index}
use Rattle.catalog.specs.declared.reading.Catalog.{Catalog}
use Rattle.catalog.specs.Reading.{IsCatalogOf}
use Rattle.relation_rows.specs.Indexed.{IsIndexOf}
use Rattle.sound_lines.specs.Contents.{AreTablesWith}

-- the relation of a logical area
abbrev pub relation_in : ℕ → List (Name × Rows) → Option Rows
relation_in area [] = None
relation_in area (e ∷ es) = if e.1.area == area then Some e.1 else relation_in area es

-- ---- relations

-- along the fields the versions don't fall, from the one to the other
abbrev pub versions_rise : ℕ → ℕ → List Field → Bool
versions_rise low high [] = nat_le low high
versions_rise low high (f ∷ fs) = nat_le low f.version && versions_rise f.version high fs

-- The class is that of the longest image of a row. The versions of the fields rise from 1 to the relation's, which is at most the count of the fields.
pub record IsSoundRelation (r : RelationLine) (fields : List Field) : Type 0 where
  pub class : r.class ≡ class_of fields
  pub versions : versions_rise 1 r.version fields ≡ true
  pub version : r.version ≤ length fields

-- ---- indexes

abbrev pub longest_in : Option Field → ℕ
longest_in (Some f) = longest_value f.kind
longest_in None = 0

-- the bytes of the longest key of values in the fields at these positions
abbrev pub longest_key : List ℕ → List Field → ℕ
longest_key positions fields = sum_by (λ p. longest_in (slice_get fields p)) positions

-- The longest key has at most 120 bytes, it is an index of the rows of its relation, and where it is unique no two rows have one key.
pub record IsSoundIndex (all : Lines) (x : IndexLine) (r : Option Rows) : Type 0 where
  pub short : longest_key x.fields (fields_of r) ≤ 120
  pub is : IsIndexOf all x.root x.fields (rows_of r)
  pub unique : x.unique ≡ true → keys_repeat x.fields (rows_of r) ≡ false

-- ---- the map

abbrev pub IsSoundLine : Lines → Tables → CatalogLine → Type 0
IsSoundLine all t (Relation r) = IsSoundRelation r (fields_of (relation_in r.area t.relations))
IsSoundLine all t (Global g) = Unit {0}
IsSoundLine all t (FieldOf f) = Unit {0}
IsSoundLine all t (Index x) = IsSoundIndex all x (relation_in x.relation t.relations)

-- a line of an even logical area is that of a relation
abbrev pub IsOwned : Tables → Dbkey × List ℕ → Type 0
IsOwned t e = e.0.area % 2 ≡ 0 → IsSome (relation_in e.0.area t.relations)

-- The catalog decodes, and these are the tables: the lines of each relation's logical area are its rows. The relations and the indexes are sound, and each line of an even logical area is a relation's.
pub record IsSound (all : Lines) : Type 0 where
  pub catalog : Catalog
  pub decodes : IsCatalogOf all catalog
  pub tables : Tables
  pub are : AreTablesWith all catalog tables
  pub things : AllByRecursion (λ p. IsSoundLine all tables p.line) catalog.lines
  pub owned : AllByRecursion (IsOwned tables) all
