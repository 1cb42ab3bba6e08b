-- The lines that a relation owns outside the catalog.
use Rattle.std.specs.Prelude.{◌≡◌, ℕ, Some, ◌⊎◌, slice_get}
use Rattle.rdb_types.specs.declared.keys.Dbkey.{Dbkey}
use Rattle.catalog_lines.specs.declared.line.IndexLine.{IndexLine}
use Rattle.catalog_lines.specs.declared.line.CatalogLine.TheVariants.{Index}
use Rattle.catalog.specs.declared.directory.PlacedLine.{PlacedLine}
use Rattle.catalog.specs.declared.reading.Catalog.{Catalog}

-- the line stands in the logical area of an index of the relation of this area
pub record IsOfIndex (c : Catalog) (area : ℕ) (key : Dbkey) : Type 0 where
  pub place : ℕ
  pub line : PlacedLine
  pub stands : slice_get c.lines place ≡ Some line
  pub index : IndexLine
  pub is : line.line ≡ Index index
  pub on : index.relation ≡ area
  pub within : key.area ≡ index.area

-- the line is that of a row of the relation, or of a node of one of its indexes
abbrev pub IsOfRelation : Catalog → ℕ → Dbkey → Type 0
IsOfRelation c area key = (key.area ≡ area) ⊎ IsOfIndex c area key
