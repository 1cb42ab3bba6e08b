-- In which logical areas definitions and deletions read and write lines.
use Rattle.std.specs.Prelude.{◌≡◌, ◌⊎◌, ℕ, true, List, [], ◌∷◌, Some, Result, slice_get}
use Rattle.std.specs.FinMap.Entries.{find}
use Rattle.rdb_types.specs.Order.{chars_order}
use Rattle.rdo_ast.specs.Tree.{Name}
use Rattle.rdo_ast.specs.declared.reply.Reply.{Reply}
use Rattle.rdb_meaning.specs.declared.tables.Index.{Index as IndexOf}
use Rattle.rdb_meaning.specs.declared.tables.Relation.{Relation as Rows}
use Rattle.rdb_meaning.specs.declared.tables.Tables.{Tables}
use Rattle.rdb_meaning.specs.Contents.{relation_named}
use Rattle.line_view.specs.declared.need.Need.{Need}
use Rattle.line_view.specs.declared.need.Need.TheVariants.{Line, Area, Room}
use Rattle.line_view.specs.declared.stop.Stop.{Stop}
use Rattle.line_view.specs.Knowledge.{Lines}
use Rattle.line_view.specs.Stops.{Stops}
use Rattle.catalog_lines.specs.declared.line.IndexLine.{IndexLine}
use Rattle.catalog_lines.specs.declared.line.CatalogLine.{CatalogLine}
use Rattle.catalog_lines.specs.declared.line.CatalogLine.TheVariants.{Index}
use Rattle.catalog.specs.declared.directory.PlacedLine.{PlacedLine}
use Rattle.catalog.specs.declared.reading.Catalog.{Catalog}
use Rattle.catalog.specs.Deletions.{is_index_named}
use Rattle.catalog.specs.Reading.{catalog_area}
use Rattle.statement_view.specs.Over.{Over}
use Rattle.statement_view.specs.Areas.{KeepsTo}
use Rattle.row_writes.specs.Target.{AreOwn}
use Rattle.row_writes.specs.Rows.{IsSoundView}
use Rattle.row_writes.specs.Areas.{areas_with}

-- ---- what is looked up of a deletion

-- all lines of an area of which this is true
abbrev pub IsAreaOf : (ℕ → Type 0) → Need → Type 0
IsAreaOf Is (Line key) = ⊥
IsAreaOf Is (Area area) = Is area
IsAreaOf Is (Room room) = ⊥

-- what is named as missing is the keys of an area of which this is true
abbrev pub WantsArea : (ℕ → Type 0) → Stop Reply → Type 0
WantsArea Is = Stops (IsAreaOf Is) (λ key. Unit {0}) (λ reply. Unit {0})

-- one of the lines is that of an index in this area, of which this is true
pub record IsIndexArea (holds : IndexLine → Type 0) (lines : List PlacedLine) (area : ℕ) : Type 0 where
  pub place : ℕ
  pub line : PlacedLine
  pub stands : slice_get lines place ≡ Some line
  pub index : IndexLine
  pub is : line.line ≡ Index index
  pub holding : holds index
  pub same : area ≡ index.area

abbrev pub IsAreaNamed : List PlacedLine → Name → ℕ → Type 0
IsAreaNamed lines n = IsIndexArea (λ x. is_index_named n (Index x) ≡ true) lines

abbrev pub IsAreaOn : ℕ → CatalogLine → ℕ → Type 0
IsAreaOn relation line area = (x : IndexLine) × (line ≡ Index x) × (x.relation ≡ relation) × (area ≡ x.area)

-- the relation's area, or that of one of its indexes
abbrev pub IsAreaOwned : ℕ → List PlacedLine → ℕ → Type 0
IsAreaOwned relation lines area = (area ≡ relation) ⊎ IsIndexArea (λ x. x.relation ≡ relation) lines area

-- ---- whole statements

-- Over each map with this catalog the work keeps to the catalog's area, and to these others.
abbrev pub SchemaKeeps : {E : Type 0} → Over → Over → Catalog → (Tables → List ℕ → Type 0) → Result (Unit {0}) (Stop E) → Type 0
SchemaKeeps old new c Are result = (t : Tables) (first : Lines) (others : List ℕ) → IsSoundView old c t first → Are t others → KeepsTo (catalog_area ∷ others) (catalog_area ∷ others) old new result

abbrev pub NoOthers : Tables → List ℕ → Type 0
NoOthers t others = others ≡ []

-- that of the index of this name
abbrev pub AreOfIndex : Name → Tables → List ℕ → Type 0
AreOfIndex n t others = (x : IndexOf) × (find chars_order n t.indexes ≡ Some x) × (others ≡ x.area ∷ [])

-- those of the relation of this name and of its indexes
abbrev pub AreOfRelation : Catalog → Name → Tables → List ℕ → Type 0
AreOfRelation c n t others = (rel : Rows) × (xs : List IndexLine) × (relation_named n t ≡ Some rel) × AreOwn c rel.area [] xs × (others ≡ areas_with rel xs)
