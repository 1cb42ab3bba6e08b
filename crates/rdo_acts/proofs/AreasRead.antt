-- In which areas selections, values and rows are read, over the view of a statement.
use Rattle.std.proofs.Common.{◌≡◌, ℕ, Bool, List, [], ◌∷◌, ◌++◌, map, Option, Some, Result, Ok, Err, refl, sym, ap, subst, ◌∙◌}
use Rattle.rdb_types.specs.declared.keys.Dbkey.{Dbkey}
use Rattle.rdo_ast.specs.Tree.{Name}
use Rattle.rdb_meaning.specs.declared.tables.Relation.{Relation as Rows}
use Rattle.rdb_meaning.specs.declared.tables.Tables.{Tables}
use Rattle.rdb_meaning.specs.Contents.{Row, relation_named, indexes_on}
use Rattle.rdb_meaning.specs.Checks.{Use, use_of, expression_uses, ranging_uses}
use Rattle.rdb_meaning.specs.Evaluation.{Scope}
use Rattle.line_view.specs.declared.need.Need.{Need}
use Rattle.line_view.specs.declared.need.Need.TheVariants.{Line, Area, Room}
use Rattle.line_view.specs.declared.stop.Never.{Never}
use Rattle.line_view.specs.declared.stop.Stop.{Stop}
use Rattle.line_view.specs.declared.stop.Stop.TheVariants.{Missing, Bad, NoMemory, Own}
use Rattle.line_view.specs.Knowledge.{Knowledge, Lines}
use Rattle.line_view.specs.Stops.{of_view}
use Rattle.catalog_lines.specs.declared.line.IndexLine.{IndexLine}
use Rattle.schema_alone.specs.Schema.{OneSchema}
use Rattle.sound_changes.proofs.Schemas.{catalogs_schema}
use Rattle.statement_view.specs.Over.{Over, knows_over, laid_over}
use Rattle.statement_view.specs.Areas.{is_among, IsNeedOf, KeepsTo}
use Rattle.row_writes.specs.Rows.{IsSoundView}
use Rattle.row_writes.specs.Stop.{RowStop}
use Rattle.row_writes.proofs.AreaLists.{Wider, one_of, first_area, StopsAt, stops_at}
use Rattle.used_areas.specs.Areas.{relation_areas, areas_read, areas_changed}
use Rattle.used_areas.proofs.Same.{read_same, changed_same}
use Rattle.rdo_arithmetic.specs.declared.stop.Misfit.{Misfit}
use Rattle.rdo_arithmetic.specs.declared.stop.Misfit.TheVariants as misfit
use Rattle.rdo_values.specs.Tree.{Expression, Ranging}
use Rattle.rdo_values.specs.Named.{named, named_ranging}
use Rattle.rdo_values.specs.Places.{IsBound, IsBoundRanging}
use Rattle.rdo_values.specs.Rows.{variables_of}
use Rattle.rdo_select.specs.SelectStop.{SelectStop}
use Rattle.rdo_select.specs.Readings.{LacksFirst}
use Rattle.rdo_select.specs.Work.{Work as Reading, Does, valuing, selecting}
use Rattle.selection_areas.specs.Areas.{ArePlaced}
use Rattle.selection_areas.proofs.Used.{expression_lacks, ranging_lacks}
use Rattle.selection_areas.proofs.Placed.{sources_placed}
use Rattle.rdo_acts.specs.declared.work.Given.{Given}
use Rattle.rdo_acts.specs.declared.work.Work.{Work}
use Rattle.rdo_acts.specs.Ends.{ActStop, GoTogether, HoldsIn}
use Rattle.rdo_acts.specs.Areas.{ReadsIn, KeepsFor}
use Rattle.rdo_acts.specs.Stops.{stop_of_select, stop_of_misfit, IsStopOfRow}
use Rattle.rdo_acts.proofs.Viewing.{shows}

-- ---- stops in other words

module _ (next : Need → Type 0) where
  select_at : (stop : SelectStop) → StopsAt next stop → StopsAt next (stop_of_select stop)
  select_at (Missing need) h = h
  select_at (Bad key) h = tt
  select_at NoMemory h = tt
  select_at (Own past) h = tt

  pub misfit_at : (m : Misfit) → StopsAt next (stop_of_misfit m)
  misfit_at misfit.Overflow = tt
  misfit_at misfit.TooLong = tt
  misfit_at misfit.Memory = tt

  pub view_at : (E : Type 0) (stop : Stop Never) → StopsAt next stop → StopsAt {E = E} next (of_view stop)
  view_at E (Missing need) h = h
  view_at E (Bad key) h = tt
  view_at E NoMemory h = tt
  view_at E (Own never) h = elim never [ ]

  pub row_at : (stop : RowStop) (xs : List IndexLine) (own : ActStop) → IsStopOfRow stop xs own → StopsAt next stop → StopsAt next own
  row_at (Missing need) xs own so h = subst (StopsAt next) (sym so) h
  row_at (Bad key) xs own so h = subst (StopsAt next) (sym so) tt
  row_at NoMemory xs own so h = subst (StopsAt next) (sym so) tt
  row_at (Own refusal) xs own so h = subst (StopsAt next) (sym so.1) tt

  does_at : (known : Knowledge) (w : Reading) → ((need : Need) → LacksFirst known w.readings need → next need) → (stop : SelectStop) → Does known w (Some stop) → StopsAt next stop
  does_at known w because (Missing need) does = because need does
  does_at known w because (Bad key) does = tt
  does_at known w because NoMemory does = tt
  does_at known w because (Own past) does = tt

-- ---- selections and values

module _ (given : Given) (together : GoTogether given) (o : Over) (t : Tables) (first : Lines) (sound : IsSoundView o given.schema.now t first) where
  placed : ArePlaced t given.sources.now.entries
  placed = sources_placed (laid_over o.lines first) given.schema.now t given.sources.now.entries sound.sound (together.tables (laid_over o.lines first) t sound.sound) together.indexed

  pub value_reads : (e : Expression) (scope : Scope) (stop : SelectStop) → IsBound e t (variables_of scope) → Does (knows_over o) (valuing e t given.sources.now.entries scope) (Some stop)
      → StopsAt (IsNeedOf (areas_read t (expression_uses (named e))) []) (stop_of_select stop)
  value_reads e scope stop bound does =
      let next = IsNeedOf (areas_read t (expression_uses (named e))) [] in
      select_at next stop
      (does_at next (knows_over o) (valuing e t given.sources.now.entries scope)
      (λ need lacks. expression_lacks (knows_over o) given.sources.now.entries t scope (variables_of scope) e need (shows given together o t first sound) placed bound lacks) stop does)

  pub selection_reads : (r : Ranging) (scope : Scope) (stop : SelectStop) → IsBoundRanging r t (variables_of scope) → Does (knows_over o) (selecting r t given.sources.now.entries scope) (Some stop)
      → StopsAt (IsNeedOf (areas_read t (ranging_uses (named_ranging r))) []) (stop_of_select stop)
  selection_reads r scope stop bound does =
      let next = IsNeedOf (areas_read t (ranging_uses (named_ranging r))) [] in
      select_at next stop
      (does_at next (knows_over o) (selecting r t given.sources.now.entries scope)
      (λ need lacks. ranging_lacks (knows_over o) given.sources.now.entries t scope (variables_of scope) r need (shows given together o t first sound) placed bound lacks) stop does)

-- ---- work that only reads

need_reads : (small big changed : List ℕ) → Wider small big → (need : Need) → IsNeedOf small [] need → IsNeedOf big changed need
need_reads small big changed wider (Line key) h = wider key.area h
need_reads small big changed wider (Area area) h = wider area h
need_reads small big changed wider (Room room) h = let bad : ⊥ = cc in absurd bad

pub reads_wider : {E : Type 0} (small big : List ℕ) → Wider small big → (stop : Stop E) → StopsAt (IsNeedOf small []) stop → StopsAt (IsNeedOf big []) stop
reads_wider small big wider stop h = stops_at (IsNeedOf small []) (IsNeedOf big []) (need_reads small big [] wider) stop h

pub reading_keeps : {E : Type 0} (t : Tables) (us : List Use) (stop : Stop E) → StopsAt (IsNeedOf (areas_read t us) []) stop → StopsAt (IsNeedOf (areas_read t us) (areas_changed t us)) stop
reading_keeps t us stop h = stops_at (IsNeedOf (areas_read t us) []) (IsNeedOf (areas_read t us) (areas_changed t us)) (need_reads (areas_read t us) (areas_read t us) (areas_changed t us) (λ a k. k)) stop h

-- a relation's own area is read where the relation is used
pub relation_read : (t : Tables) (changes : Bool) (n : Name) (rel : Rows) → relation_named n t ≡ Some rel → Wider (rel.area ∷ []) (areas_read t (use_of changes n ∷ []))
relation_read t changes n rel named =
    one_of rel.area (areas_read t (use_of changes n ∷ []))
    (ap (λ (o : Option Rows). is_among (relation_areas t o ++ []) rel.area) named ∙ first_area rel.area (map (λ e. e.1.area) (indexes_on rel.area t) ++ []))

-- ---- by the tables of the start

module _ (given : Given) (w : Work) (all : Lines) (start t : Tables) (holds : HoldsIn given w all start t) where
  one : OneSchema t start
  one n = sym (catalogs_schema _ given.schema.now t (holds.sound).are n) ∙ catalogs_schema all given.schema.now start (holds.began).are n

  pub at_start : (us : List Use) (old new : Over) (result : Result (Unit {0}) ActStop) → KeepsFor t us old new result → KeepsFor start us old new result
  at_start us old new result h =
      let indexes = (holds.sound).are.indexes ∙ sym (holds.began).are.indexes in
      subst (λ (p : List ℕ × List ℕ). KeepsTo p.0 p.1 old new result) (λ i. (read_same t start one indexes us i, changed_same t start one indexes us i)) h

-- what a look-up of a row lacks
pub row_reads : {X : Need → Type 0} (area : ℕ) (key : Dbkey) (result : Result (Option Row) (Stop Never)) → key.area ≡ area → ((need : Need) → result ≡ Err (Missing need) → (need ≡ Line key) × X need) → ReadsIn (area ∷ []) result
row_reads area key (Ok row) own missing = tt
row_reads area key (Err (Missing need)) own missing = subst (IsNeedOf (area ∷ []) []) (sym (missing need refl).0) (ap (is_among (area ∷ [])) own ∙ first_area area [])
row_reads area key (Err (Bad at)) own missing = tt
row_reads area key (Err NoMemory) own missing = tt
row_reads area key (Err (Own never)) own missing = tt

-- the row of a variable
pub variable_reads : {E : Type 0} (t : Tables) (changes : Bool) (n : Name) (rel : Rows) (area : ℕ) → relation_named n t ≡ Some rel → area ≡ rel.area → (stop : Stop E) → StopsAt (IsNeedOf (area ∷ []) []) stop
    → StopsAt (IsNeedOf (areas_read t (use_of changes n ∷ [])) []) stop
variable_reads t changes n rel area named same stop h =
    reads_wider (area ∷ []) (areas_read t (use_of changes n ∷ [])) (subst (λ (a : ℕ). Wider (a ∷ []) (areas_read t (use_of changes n ∷ []))) (sym same) (relation_read t changes n rel named)) stop h
