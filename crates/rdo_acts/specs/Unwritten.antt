-- A row that can't be written over what is known, and the work that comes to one.
use Rattle.std.specs.Prelude.{◌≡◌, ℕ, List, [], ◌++◌, Some, slice_get, option_map}
use Rattle.rdb_types.specs.declared.keys.Dbkey.{Dbkey}
use Rattle.rdb_types.specs.declared.values.Scaled.{Scaled}
use Rattle.rdo_ast.specs.Tree.{Name, Act}
use Rattle.rdb_meaning.specs.declared.tables.Tables.{Tables}
use Rattle.rdb_meaning.specs.declared.tables.Relation.{Relation}
use Rattle.rdb_meaning.specs.Contents.{Row, relation_named}
use Rattle.rdb_meaning.specs.Execution.{World, world, Ran, writing, done}
use Rattle.line_view.specs.Knowledge.{Knowledge, Lines}
use Rattle.line_view.specs.Held.{Held, knows}
use Rattle.catalog_lines.specs.declared.line.IndexLine.{IndexLine}
use Rattle.catalog.specs.declared.reading.Catalog.{Catalog}
use Rattle.schema_alone.specs.Schema.{bare}
use Rattle.statement_view.specs.Over.{all_rooms, AreRoomsKnown}
use Rattle.view_stages.specs.Stages.{Stage, Goes}
use Rattle.stored_rows.specs.declared.images.Unstored.TheVariants.{TooLong, Misfit}
use Rattle.stored_rows.specs.Fitting.{IsRowFor}
use Rattle.row_writes.specs.declared.target.TargetRelation.{TargetRelation}
use Rattle.row_writes.specs.declared.stop.PairRefusal.TheVariants.{Duplicate, LongKey, Full}
use Rattle.row_writes.specs.declared.stop.RowRefusal.{RowRefusal}
use Rattle.row_writes.specs.declared.stop.RowRefusal.TheVariants.{NoImage, NoRoom, Pair}
use Rattle.row_writes.specs.Target.{IsTarget}
use Rattle.row_writes.specs.Pairs.{CanNotGrow, IsLongKey}

-- the index at this place is so
abbrev pub IsIndexAt : TargetRelation → ℕ → (IndexLine → Type 0) → Type 0
IsIndexAt r at P = (x : IndexLine) × (slice_get r.indexes.now at ≡ Some x) × P x

-- What is in the way of a row: its values are none of a row of the relation, or its key is none of an index; or all numbers of rooms of the relation are known; or an index can't grow.
abbrev pub IsInTheWay : Held → Lines → TargetRelation → Row → RowRefusal → Type 0
IsInTheWay base first r row (NoImage Misfit) = IsRowFor r.stored.version r.stored.fields.now row → ⊥
IsInTheWay base first r row (NoImage TooLong) = ⊥
IsInTheWay base first r row NoRoom = AreRoomsKnown (knows base) r.stored.area r.class all_rooms
IsInTheWay base first r row (Pair at Duplicate) = ⊥
IsInTheWay base first r row (Pair at LongKey) = IsIndexAt r at (λ x. IsLongKey x row)
IsInTheWay base first r row (Pair at Full) = IsIndexAt r at (CanNotGrow base first)

-- The row can't be written into the relation of this name in the catalog, over this map of the start.
pub record IsUnwritable (known : Knowledge) (first : Lines) (c : Catalog) (n : Name) (row : Row) : Type 0 where
  pub relation : Relation
  pub there : option_map bare (relation_named n c.tables) ≡ Some (bare relation)
  pub target : TargetRelation
  pub is : IsTarget c n relation target
  pub base : Held
  pub same : knows base ≡ known
  pub why : RowRefusal
  pub in_the_way : IsInTheWay base first target row why

-- From this stage on the job comes to the writing of such a row: one that is stored, or that of this Dbkey changed.
pub record IsUnwrittenAt (known : Knowledge) (c : Catalog) (all : Lines) (start : Tables) (job : World → Ran) (from : Stage) (t : Tables) : Type 0 where
  pub at : Stage
  pub name : Name
  pub own : Dbkey
  pub row : Row
  pub rest : World → Ran
  pub goes : Goes known c all start job (λ w. writing name row own w (rest w)) from at t
  pub unwritable : IsUnwritable known all c name row

-- What the action means over these tables comes to the writing of such a row, behind the rows that were given these Dbkeys.
pub record IsUnwrittenOver (known : Knowledge) (first : Lines) (c : Catalog) (a : Act) (t : Tables) : Type 0 where
  pub given : List Dbkey
  pub now : Tables
  pub lines : List (List Scaled)
  pub name : Name
  pub own : Dbkey
  pub row : Row
  pub rest : World → Ran
  pub comes : (left : List Dbkey) → done a t [] (world t (given ++ left) []) ≡ writing name row own (world now left lines) (rest (world now left lines))
  pub unwritable : IsUnwritable known first c name row
