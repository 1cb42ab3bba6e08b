-- How far the tables of a map can be read in a view.
use Rattle.std.specs.Prelude.{◌≡◌, ℕ, List, ◌∷◌, ◌++◌, Some}
use Rattle.std.specs.List.{AllByRecursion}
use Rattle.rdb_types.specs.declared.keys.Dbkey.{Dbkey}
use Rattle.rdo_ast.specs.Tree.{Name}
use Rattle.rdb_meaning.specs.declared.tables.Relation.{Relation as Rows}
use Rattle.line_view.specs.declared.stop.Stop.{Stop}
use Rattle.line_view.specs.declared.stop.Never.{Never}
use Rattle.line_view.specs.declared.stop.Stop.TheVariants.{Missing, Bad}
use Rattle.line_view.specs.Knowledge.{Knowledge, Lines}
use Rattle.line_view.specs.Stops.{Stops}
use Rattle.catalog.specs.declared.reading.Catalog.{Catalog}
use Rattle.catalog.specs.Reading.{IsCatalogOf, StopsCatalog}
use Rattle.relation_rows.specs.declared.stored.StoredRelation.{StoredRelation}
use Rattle.relation_rows.specs.Stored.{IsLineKnown, IsAreaKnown, IsBadAt, IsNextNeed}
use Rattle.sound_lines.specs.Contents.{versions_in, version_of, stored}

-- The lines of the relation's logical area are known before this one, and this one is no row of the relation.
pub record IsBadRow (known : Knowledge) (r : StoredRelation) (key : Dbkey) : Type 0 where
  pub before : List Dbkey
  pub behind : List Dbkey
  pub told : known.area r.area ≡ Some (before ++ key ∷ behind)
  pub lines : AllByRecursion (IsLineKnown known) before
  pub bad : IsBadAt known r key

-- this is why the rows of a relation can't be read
abbrev pub StopsRows : Knowledge → StoredRelation → Stop Never → Type 0
StopsRows known r = Stops (IsNextNeed known r.area) (IsBadRow known r) (λ never. ⊥)

-- all that the rows of the relations before this one are read from is known
pub record Reaches (known : Knowledge) (relations : List (Name × Rows)) (e : Name × Rows) : Type 0 where
  pub before : List (Name × Rows)
  pub behind : List (Name × Rows)
  pub stands : relations ≡ before ++ e ∷ behind
  pub read : AllByRecursion (λ b. IsAreaKnown known b.1.area) before

-- it is met at one of these relations
pub record StopsAt (known : Knowledge) (versions : List (Name × ℕ)) (relations : List (Name × Rows)) (stop : Stop Never) : Type 0 where
  pub at : Name × Rows
  pub reaches : Reaches known relations at
  pub stops : StopsRows known (stored (version_of at.0 versions) at.1) stop

-- this is why the rows of these relations can't be read, which are read in their order
abbrev pub StopsRelations : Knowledge → List (Name × ℕ) → List (Name × Rows) → Stop Never → Type 0
StopsRelations known versions relations = Stops (λ need. StopsAt known versions relations (Missing need)) (λ key. StopsAt known versions relations (Bad key)) (λ never. ⊥)

-- This is why the tables of a map can't be read: the catalog is read first, and then the rows of its relations in the order of their names.
pub data StopsTables (known : Knowledge) (all : Lines) (stop : Stop Never) : Type 0 where
  in_catalog : StopsCatalog known stop → StopsTables known all stop
  in_rows : (c : Catalog) → IsCatalogOf all c → StopsRelations known (versions_in c.lines) c.tables.relations stop → StopsTables known all stop
