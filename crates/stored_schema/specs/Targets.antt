-- The relations of a catalog as rows are written into them.
use Rattle.std.specs.Prelude.{◌≡◌, map, Option, Some, None}
use Rattle.rdo_ast.specs.Tree.{Name}
use Rattle.rdb_meaning.specs.declared.tables.Relation.{Relation as Rows}
use Rattle.rdb_meaning.specs.declared.tables.Tables.{Tables}
use Rattle.rdb_meaning.specs.Contents.{indexes_on, class_of}
use Rattle.catalog.specs.declared.reading.Catalog.{Catalog}
use Rattle.relation_rows.specs.declared.stored.StoredRelation.{StoredRelation}
use Rattle.row_writes.specs.sound_lines.Contents.{versions_in, version_of}
use Rattle.row_writes.specs.declared.target.TargetRelation.{TargetRelation}
use Rattle.row_writes.specs.Target.{IsTarget, named_index}

-- The relation of this name of a catalog is stored so.
pub record IsStoredAs (c : Catalog) (n : Name) (b : Rows) (r : StoredRelation) : Type 0 where
  pub area : r.area ≡ b.area
  pub version : r.version ≡ version_of n (versions_in c.lines)
  pub fields : r.fields.now ≡ b.fields

-- A relation of the tables is written by this target: it has the class of the relation's rows, and its indexes are those of the tables in their order.
pub record IsTargetIn (c : Catalog) (t : Tables) (n : Name) (rel : Rows) (r : TargetRelation) : Type 0 where
  pub is : IsTarget c n rel r
  pub class : r.class ≡ class_of rel.fields
  pub ordered : map named_index r.indexes.now ≡ indexes_on rel.area t

abbrev pub HasTarget : Catalog → Tables → Name → Rows → Option TargetRelation → Type 0
HasTarget c t n rel (Some r) = IsTargetIn c t n rel r
HasTarget c t n rel None = ⊥

abbrev pub HasStored : Catalog → Name → Rows → Option TargetRelation → Type 0
HasStored c n b (Some r) = IsStoredAs c n b r.stored
HasStored c n b None = ⊥
