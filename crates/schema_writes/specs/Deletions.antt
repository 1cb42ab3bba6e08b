-- A deletion over the view of a statement, for every map of lines that goes with the view.
use Rattle.std.specs.Prelude.{◌≡◌, ◌==◌, ◌⊎◌, ℕ, Bool, true, false, if◌then◌else◌, List, [], ◌∷◌, ◌++◌, Option, Some, None, is_some, Result, slice_get}
use Rattle.std.specs.List.{AllByRecursion}
use Rattle.rdb_types.specs.declared.keys.Dbkey.{Dbkey}
use Rattle.rdo_ast.specs.Tree.{Name}
use Rattle.catalog_lines.specs.declared.line.IndexLine.{IndexLine}
use Rattle.catalog_lines.specs.declared.line.CatalogLine.{CatalogLine}
use Rattle.catalog_lines.specs.declared.line.CatalogLine.TheVariants.{Relation, Global, Field as FieldOf, Index}
use Rattle.catalog.specs.declared.directory.PlacedLine.{PlacedLine}
use Rattle.catalog.specs.Deletions.{is_index_named}
use Rattle.line_view.specs.declared.stop.Stop.{Stop}
use Rattle.line_view.specs.Knowledge.{Knowledge, Lines, line_in}
use Rattle.line_view.specs.Held.{Held, knows}
use Rattle.line_view.specs.Stops.{Answers, Stops, Lacks}
use Rattle.rdo_ast.specs.declared.reply.Reply.{Reply}
use Rattle.rdb_meaning.specs.declared.tables.Tables.{Tables}
use Rattle.rdb_meaning.specs.Checks.{Refusal}
use Rattle.catalog.specs.declared.reading.Catalog.{Catalog}
use Rattle.statement_view.specs.Over.{Over, laid_over}
use Rattle.row_writes.specs.Rows.{IsSoundView}
use Rattle.schema_writes.specs.Definitions.{IsCarriedOut}

-- what is named isn't known
abbrev pub LacksArea : Held → Stop Reply → Type 0
LacksArea base = Stops (Lacks (knows base)) (λ key. ⊥) (λ reply. ⊥)

-- These are the present lines in the logical area of an index of this name.
pub record IsIndexKnown (known : Knowledge) (lines : List PlacedLine) (n : Name) (keys : List Dbkey) : Type 0 where
  pub place : ℕ
  pub line : PlacedLine
  pub stands : slice_get lines place ≡ Some line
  pub index : IndexLine
  pub is : line.line ≡ Index index
  pub named : is_index_named n (Index index) ≡ true
  pub told : known.area index.area ≡ Some keys

-- so are these, or there are none and no line is that of such an index
abbrev pub AreNodes : Knowledge → List PlacedLine → Name → List Dbkey → Type 0
AreNodes known lines n keys = ((keys ≡ []) × AllByRecursion (λ (p : PlacedLine). is_index_named n p.line ≡ false) lines) ⊎ IsIndexKnown known lines n keys

-- ---- what a relation owns outside the catalog

abbrev pub keys_or_none : Option (List Dbkey) → List Dbkey
keys_or_none (Some keys) = keys
keys_or_none None = []

-- where the line is that of an index of the relation of this logical area, the lines that are known in the index's area
abbrev pub nodes_at : Knowledge → ℕ → CatalogLine → List Dbkey
nodes_at known relation (Relation r) = []
nodes_at known relation (Global g) = []
nodes_at known relation (FieldOf f) = []
nodes_at known relation (Index x) = if x.relation == relation then keys_or_none (known.area x.area) else []

abbrev pub nodes_in : Knowledge → ℕ → List PlacedLine → List Dbkey
nodes_in known relation [] = []
nodes_in known relation (p ∷ ps) = nodes_at known relation p.line ++ nodes_in known relation ps

abbrev pub AreNodesKnown : Knowledge → ℕ → CatalogLine → Type 0
AreNodesKnown known relation (Relation r) = Unit {0}
AreNodesKnown known relation (Global g) = Unit {0}
AreNodesKnown known relation (FieldOf f) = Unit {0}
AreNodesKnown known relation (Index x) = x.relation == relation ≡ true → is_some (known.area x.area) ≡ true

-- These are the present lines in the relation's logical area, and behind them those in the areas of its indexes.
pub record AreOwned (known : Knowledge) (relation : ℕ) (lines : List PlacedLine) (keys : List Dbkey) : Type 0 where
  pub rows : List Dbkey
  pub told : known.area relation ≡ Some rows
  pub nodes : AllByRecursion (λ (p : PlacedLine). AreNodesKnown known relation p.line) lines
  pub are : keys ≡ rows ++ nodes_in known relation lines

-- ---- deletions

-- in the logical area of an index of the catalog for which this holds no line is present
abbrev pub HasNoNodes : (CatalogLine → Bool) → Catalog → Lines → Type 0
HasNoNodes holds c all =
    (place : ℕ) (line : PlacedLine) (index : IndexLine) → slice_get c.lines place ≡ Some line → line.line ≡ Index index → holds (Index index) ≡ true → (key : Dbkey) → key.area ≡ index.area → line_in key all ≡ None

-- so it is behind the writes of the view, over each map with this catalog
abbrev pub ErasesNodes : Over → Over → Catalog → (CatalogLine → Bool) → Type 0
ErasesNodes old new c holds = (t : Tables) (first : Lines) → IsSoundView old c t first → HasNoNodes holds c (laid_over new.lines first)

-- Over each map with this catalog: what the meaning refuses in its tables is refused, before anything is named that isn't known; else the tables of the meaning are left.
abbrev pub Deletes : Over → Over → Catalog → (Tables → Refusal) → (Tables → Tables) → Result (Unit {0}) (Stop Reply) → Type 0
Deletes old new c refusal after result = (t : Tables) (first : Lines) → IsSoundView old c t first →
    Answers (λ u. IsCarriedOut new (refusal t) (after t) first) (λ need. (refusal t ≡ None) × Lacks (knows old.base) need) (λ key. ⊥) (λ reply. refusal t ≡ Some reply) result
