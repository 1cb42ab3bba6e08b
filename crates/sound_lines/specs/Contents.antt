-- The tables of a full map of lines: those of its catalog, with the rows that stand on the lines of each relation's logical area.
use Rattle.std.specs.Prelude.{◌≡◌, ℕ, List, [], ◌∷◌}
use Rattle.std.specs.Option.{unwrap_or}
use Rattle.std.specs.FinMap.Entries.{find, put}
use Rattle.rdo_ast.specs.Tree.{Name}
use Rattle.rdb_meaning.specs.declared.tables.Relation.{Relation as Rows}
use Rattle.rdb_meaning.specs.declared.tables.Tables.{Tables}
use Rattle.rdb_types.specs.Order.{chars_order}
use Rattle.line_view.specs.Knowledge.{Lines}
use Rattle.catalog_lines.specs.declared.line.CatalogLine.{CatalogLine}
use Rattle.catalog_lines.specs.declared.line.CatalogLine.TheVariants.{Relation, Global, Field, Index}
use Rattle.catalog.specs.declared.directory.PlacedLine.{PlacedLine}
use Rattle.catalog.specs.declared.reading.Catalog.{Catalog}
use Rattle.catalog.specs.Reading.{IsCatalogOf}
use Rattle.relation_rows.specs.declared.stored.StoredRelation.{StoredRelation}
use Rattle.relation_rows.specs.Relations.{HasRows}

-- ---- the version of each relation

abbrev pub with_version : CatalogLine → List (Name × ℕ) → List (Name × ℕ)
with_version (Relation r) versions = put chars_order r.name r.version versions
with_version (Global g) versions = versions
with_version (Field f) versions = versions
with_version (Index x) versions = versions

abbrev pub versions_from : List (Name × ℕ) → List PlacedLine → List (Name × ℕ)
versions_from versions [] = versions
versions_from versions (p ∷ ps) = versions_from (with_version p.line versions) ps

abbrev pub versions_in : List PlacedLine → List (Name × ℕ)
versions_in = versions_from []

-- 0 where no relation has the name
abbrev pub version_of : Name → List (Name × ℕ) → ℕ
version_of name versions = unwrap_or (find chars_order name versions) 0

-- ---- the rows of each relation

-- a relation in this version, as its rows are stored
abbrev pub stored : ℕ → Rows → StoredRelation
stored version r = record { area = r.area; version = version; fields = record { ref_ptr = (0, 0); now = r.fields } }

-- these relations are those, each with the rows that the lines of its logical area are
abbrev pub HaveRows : Lines → List (Name × ℕ) → List (Name × Rows) → List (Name × Rows) → Type 0
HaveRows all versions [] [] = Unit {0}
HaveRows all versions [] (w ∷ ws) = ⊥
HaveRows all versions (b ∷ bs) [] = ⊥
HaveRows all versions (b ∷ bs) (w ∷ ws) = (w.0 ≡ b.0) × HasRows all (stored (version_of b.0 versions) b.1) w.1 × HaveRows all versions bs ws

-- ---- the tables

-- these are the tables of a map that has this catalog
pub record AreTablesWith (all : Lines) (c : Catalog) (t : Tables) : Type 0 where
  pub globals : t.globals ≡ c.tables.globals
  pub relations : HaveRows all (versions_in c.lines) c.tables.relations t.relations
  pub indexes : t.indexes ≡ c.tables.indexes

-- The map's catalog decodes, and so do the rows of its relations, and these are its tables. The nodes of indexes play no part.
pub record AreTablesOf (all : Lines) (t : Tables) : Type 0 where
  pub catalog : Catalog
  pub decodes : IsCatalogOf all catalog
  pub tables : AreTablesWith all catalog t
