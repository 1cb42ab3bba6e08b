-- How far the actions of a statement have come over its view, and how one ends.
use Rattle.std.specs.Prelude.{◌≡◌, List, Option, Some, None, IsSome, Result}
use Rattle.rdb_types.specs.declared.keys.Dbkey.{Dbkey}
use Rattle.rdo_ast.specs.declared.reply.Reply.{Reply}
use Rattle.rdo_ast.specs.declared.reply.Reply.TheVariants as r
use Rattle.rdb_meaning.specs.declared.tables.Tables.{Tables}
use Rattle.rdo_ast.specs.Tree.{Name}
use Rattle.rdb_meaning.specs.declared.tables.Relation.{Relation}
use Rattle.rdb_meaning.specs.Contents.{Row, relation_named}
use Rattle.rdb_meaning.specs.Evaluation.{Scope}
use Rattle.rdb_meaning.specs.Execution.{World, Ran, ran, Assigned, unassigned}
use Rattle.line_view.specs.declared.stop.Stop.{Stop}
use Rattle.line_view.specs.Knowledge.{Knowledge, Lines}
use Rattle.line_view.specs.Held.{knows}
use Rattle.line_view.specs.Stops.{Answers, Lacks}
use Rattle.catalog.specs.declared.reading.Catalog.{Catalog}
use Rattle.sound_changes.specs.Standing.{IsSoundAs}
use Rattle.statement_view.specs.Over.{Over, knows_over, writes_of}
use Rattle.view_stages.specs.Stages.{Stage, Holds, Goes, refusing}
use Rattle.rdo_values.specs.Rows.{row_of}
use Rattle.rdo_ast.specs.declared.syntax.Range.{Range}
use Rattle.rdo_select.specs.declared.crossing.Found.{Found}
use Rattle.rdo_select.specs.Stops.{HaveValues}
use Rattle.rdo_select.specs.Sources.{source_at, AreSourcesOf}
use Rattle.selection_areas.specs.statement_sources.Sources.{AreOfTables, AreIndexed}
use Rattle.rdo_acts.specs.declared.stop.Refusal.{Refusal}
use Rattle.rdo_acts.specs.declared.stop.Refusal.TheVariants.{Overflow, TooLong, Duplicate, Unwritten}
use Rattle.rdo_acts.specs.declared.work.Given.{Given}
use Rattle.rdo_acts.specs.declared.work.Work.{Work}
use Rattle.rdo_acts.specs.Unwritten.{IsUnwrittenAt}

-- ---- what is given

-- Over each map that is sound with the catalog, these are the sources of its tables, and no others; each has the indexes of the catalog.
pub record GoTogether (given : Given) : Type 0 where
  pub tables : (all : Lines) (t : Tables) → IsSoundAs all given.schema.now t → AreSourcesOf all t given.sources.now.entries
  pub only : (all : Lines) (t : Tables) → IsSoundAs all given.schema.now t → AreOfTables all t given.sources.now.entries
  pub indexed : AreIndexed given.schema.now given.sources.now.entries
  pub present : (n : Name) (rel : Relation) → relation_named n given.schema.now.tables ≡ Some rel → IsSome (source_at rel.area given.sources.now.entries)

-- ---- refusals

abbrev pub ActStop : Type 0
ActStop = Stop Refusal

-- the reply of a refusal; a row that can't be written has none
abbrev pub reply_of : Refusal → Option Reply
reply_of Overflow = Some r.Overflow
reply_of TooLong = Some r.TooLong
reply_of (Duplicate name) = Some (r.Duplicate name.now)
reply_of (Unwritten reason) = None

abbrev pub IsUnassigned : Option Reply → Assigned → Type 0
IsUnassigned (Some reply) a = a ≡ unassigned reply
IsUnassigned None a = ⊥

-- What is computed over the view of a statement, with the tables that it shows behind the writes: this is true of it, or of the refusal; else what is missing isn't known, and no line is bad.
abbrev pub Computes : {T E : Type 0} → Result T (Stop E) → Over → (T → Type 0) → (E → Type 0) → Type 0
Computes result view done refused = Answers done (Lacks (knows view.base)) (λ key. ⊥) refused result

-- ---- stages

abbrev pub stage : Work → Stage
stage w = record { seen = knows_over w.view; writes = writes_of w.view.lines; lines = w.lines; given = w.given }

abbrev pub HoldsIn : Given → Work → Lines → Tables → Tables → Type 0
HoldsIn given w all start t = Holds (knows w.view.base) given.schema.now all start (stage w) t

-- It is refused from a stage on at which these Dbkeys were given.
pub record IsRefusedAt (known : Knowledge) (c : Catalog) (all : Lines) (start : Tables) (job : World → Ran) (reply : Reply) (from : Stage) (given : List Dbkey) (t : Tables) : Type 0 where
  pub at : Stage
  pub given_there : at.given ≡ given
  pub goes : Goes known c all start job (refusing reply) from at t

-- the same, or it comes to the writing of a row that can't be written
abbrev pub Refuses : Option Reply → Knowledge → Catalog → Lines → Tables → (World → Ran) → Stage → List Dbkey → Tables → Type 0
Refuses (Some reply) known c all start job from given t = IsRefusedAt known c all start job reply from given t
Refuses None known c all start job from given t = IsUnwrittenAt known c all start job from t

-- The job is done; or it is refused; or what is missing isn't known, and no line is bad. Want of memory says nothing.
abbrev pub Ends : Result (Unit {0}) ActStop → Given → Lines → Tables → (World → Ran) → Work → Work → Tables → Type 0
Ends result given all start job old new t =
    Answers (λ done. Goes (knows old.view.base) given.schema.now all start job ran (stage old) (stage new) t) (Lacks (knows old.view.base)) (λ key. ⊥)
    (λ refusal. Refuses (reply_of refusal) (knows old.view.base) given.schema.now all start job (stage old) new.given t) result

-- The same for tuples that were selected with the values of all variables.
abbrev pub RunsOver : Result (Unit {0}) ActStop → Given → Scope → List Range → List Found → (Tables → World → Ran) → Work → Work → Type 0
RunsOver result given scope ss tuples job old new = (all : Lines) (start t : Tables) → HoldsIn given old all start t → HaveValues ss t scope tuples → Ends result given all start (job start) old new t

-- The job is done behind these values of the variables around it.
abbrev pub Runs : Result (Unit {0}) ActStop → Given → Scope → Row → (Tables → World → Ran) → Work → Work → Type 0
Runs result given scope values job old new = (all : Lines) (start t : Tables) → HoldsIn given old all start t → row_of t scope ≡ values → Ends result given all start (job start) old new t
