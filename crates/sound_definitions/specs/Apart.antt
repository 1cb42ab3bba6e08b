-- What lines of the catalog and writes of it have to do with a logical area.
use Rattle.std.specs.Prelude.{◌≡◌, ◌==◌, ℕ, false, List, Some, None}
use Rattle.std.specs.List.{AllByRecursion}
use Rattle.rdb_meaning.specs.declared.tables.Tables.{Tables}
use Rattle.line_view.specs.Knowledge.{Lines}
use Rattle.line_view.specs.declared.writes.Write.{Write}
use Rattle.catalog_lines.specs.Lines.{IsCatalogLine}
use Rattle.sound_lines.specs.Sound.{IsSoundLine}
use Rattle.catalog_lines.specs.declared.line.IndexLine.{IndexLine}
use Rattle.catalog.specs.Reading.{catalog_area, IsPresent}
use Rattle.catalog_lines.specs.declared.line.CatalogLine.{CatalogLine}
use Rattle.catalog_lines.specs.declared.line.CatalogLine.TheVariants.{Relation, Global, Field as FieldOf, Index}

-- the line is of no index of this area
abbrev pub IsNoIndexIn : ℕ → CatalogLine → Type 0
IsNoIndexIn area (Relation r) = Unit {0}
IsNoIndexIn area (Global g) = Unit {0}
IsNoIndexIn area (FieldOf f) = Unit {0}
IsNoIndexIn area (Index x) = area ≡ x.area → ⊥

-- the line is of no relation of this area, nor of an index of one
abbrev pub IsUnused : ℕ → CatalogLine → Type 0
IsUnused area (Relation r) = area ≡ r.area → ⊥
IsUnused area (Global g) = Unit {0}
IsUnused area (FieldOf f) = Unit {0}
IsUnused area (Index x) = area ≡ x.relation → ⊥

-- The write is of a line of the catalog that is sound in this map, with these tables.
pub record IsNewLine (now : Lines) (t : Tables) (w : Write) : Type 0 where
  pub bytes : List ℕ
  pub line : CatalogLine
  pub written : w.image ≡ Some bytes
  pub decodes : IsCatalogLine bytes line
  pub sound : IsSoundLine now t line

-- The write erases an index's line of the catalog.
pub record IsIndexErased (all : Lines) (w : Write) : Type 0 where
  pub erased : w.image ≡ None
  pub inside : w.key.area ≡ catalog_area
  pub index : IndexLine
  pub present : IsPresent all (record { key = w.key; line = Index index })

-- the line is of no relation of this area, nor of an index of one, and no write is in its index
abbrev pub IsLeft : List Write → ℕ → CatalogLine → Type 0
IsLeft writes area (Relation r) = (area == r.area) ≡ false
IsLeft writes area (Global g) = Unit {0}
IsLeft writes area (FieldOf f) = Unit {0}
IsLeft writes area (Index x) = ((area == x.relation) ≡ false) × AllByRecursion (λ (w : Write). (w.key.area == x.root.area) ≡ false) writes
