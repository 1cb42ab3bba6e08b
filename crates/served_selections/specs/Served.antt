-- What is read of a relation, by a scan or by an index, and when an index serves it.
use Rattle.std.specs.Prelude.{◌≡◌, ◌≢◌, ◌⊎◌, ℕ, Bool, true, if◌then◌else◌, List, Option, Some, None}
use Rattle.rdb_types.specs.declared.keys.Dbkey.{Dbkey}
use Rattle.rdb_meaning.specs.declared.tables.Tables.{Tables}
use Rattle.rdb_meaning.specs.declared.tables.Relation.{Relation}
use Rattle.rdb_meaning.specs.Contents.{Row, relation_named}
use Rattle.rdb_meaning.specs.Evaluation.{Scope}
use Rattle.line_view.specs.declared.need.Need.{Need}
use Rattle.line_view.specs.declared.need.Need.TheVariants.{Line, Area, Room}
use Rattle.sorted_index_laws.specs.Nodes.{AnyByRecursion}
use Rattle.access_paths.specs.declared.choice.IndexPath.{IndexPath}
use Rattle.access_paths.specs.declared.choice.Access.{Access}
use Rattle.access_paths.specs.declared.choice.Access.TheVariants.{Scan, Find, Range}
use Rattle.access_paths.specs.Choice.{choice}
use Rattle.index_rows.specs.Indexed.{positions_in}
use Rattle.index_rows.specs.Given.{reached}
use Rattle.rdo_values.specs.Tree.{Conjunction}
use Rattle.rdo_values.specs.Rows.{row_of, variables_of}
use Rattle.rdo_select.specs.declared.source.Source.{Source}
use Rattle.rdo_select.specs.Sources.{Listed, source_at}
use Rattle.rdo_select.specs.Work.{is_read_once}
use Rattle.served_selections.specs.Ranges.{Chosen}

-- behind these values: by the index that is chosen, or by a scan
abbrev pub access_behind : Conjunction → Row → Source → Access
access_behind tests before source = if is_read_once tests source then Scan else choice source.indexes.now before tests

-- all lines of this area, or one of them
abbrev pub IsOfArea : ℕ → Need → Type 0
IsOfArea area (Line line) = line.area ≡ area
IsOfArea area (Area all) = all ≡ area
IsOfArea area (Room room) = ⊥

-- a line of this area, or that of a row which meets this
abbrev pub IsLineBy : ℕ → (Dbkey × Row → Bool) → List (Dbkey × Row) → Need → Type 0
IsLineBy area meets rows (Line line) = (line.area ≡ area) ⊎ AnyByRecursion (λ e. (e.0 ≡ line) × (meets e ≡ true)) rows
IsLineBy area meets rows (Area all) = ⊥
IsLineBy area meets rows (Room room) = ⊥

-- What is read of a relation by such an access: by a scan its area; by an index lines of the index, and of rows whose keys meet the index's part of the tests, which is the key that is looked for, or the bounds.
abbrev pub ReadsBy : Access → List IndexPath → Relation → Need → Type 0
ReadsBy Scan indexes rel need = IsOfArea rel.area need
ReadsBy (Find root key) indexes rel need = IsLineBy root.area (reached (positions_in indexes (Find root key)) (Find root key)) rel.rows need
ReadsBy (Range root bounds) indexes rel need = IsLineBy root.area (reached (positions_in indexes (Range root bounds)) (Range root bounds)) rel.rows need

-- The need is of this relation of the tables, which is read so behind rows of the variables before it.
pub record IsReadFor (t : Tables) (sources : Listed) (need : Need) (r : Chosen) : Type 0 where
  pub relation : Relation
  pub named : relation_named r.range.range.relation t ≡ Some relation
  pub source : Source
  pub stands : source_at r.range.area sources ≡ Some source
  pub scope : Scope
  pub variables : variables_of scope ≡ r.before
  pub reads : ReadsBy (access_behind r.tests (row_of t scope) source) source.indexes.now relation need

-- ---- indexes that serve

abbrev pub IsServedBehind : Tables → Chosen → Option Source → Type 0
IsServedBehind t r (Some source) = (scope : Scope) → variables_of scope ≡ r.before → access_behind r.tests (row_of t scope) source ≢ Scan
IsServedBehind t r None = ⊥

-- An index serves the relation: behind whatever rows of the variables before it, one of its indexes is chosen for the tests.
abbrev pub IsServed : Tables → Listed → Chosen → Type 0
IsServed t sources r = IsServedBehind t r (source_at r.range.area sources)

-- It is a line, and the relation is read by an index.
pub record IsReadByIndex (t : Tables) (sources : Listed) (need : Need) (r : Chosen) : Type 0 where
  pub line : Dbkey
  pub is : need ≡ Line line
  pub read : IsReadFor t sources need r
  pub by_index : access_behind r.tests (row_of t read.scope) read.source ≢ Scan
