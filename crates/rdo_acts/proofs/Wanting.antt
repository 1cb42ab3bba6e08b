-- What actions lack, part by part.
use Rattle.std.proofs.Common.{◌≡◌, ◌⊎◌, ℕ, zero, suc, ◌<◌, true, List, [], ◌∷◌, ◌++◌, map, length, drop, get_or, Option, Some, None, Result, Ok, Err, inl, inr, refl, sym, ap, subst, ◌∙◌, append-nil, arith}
use Rattle.std.specs.Prelude.{slice_get}
use Rattle.std.specs.List.{All}
use Rattle.std.proofs.lemmas.Option.{none-some, same_Some}
use Rattle.rdb_types.specs.declared.keys.Dbkey.{Dbkey}
use Rattle.rdb_types.specs.declared.values.Field.{Field}
use Rattle.rdo_ast.specs.declared.syntax.Range.{Range}
use Rattle.rdo_ast.specs.Tree.{Name}
use Rattle.rdb_meaning.specs.declared.tables.Relation.{Relation}
use Rattle.rdb_meaning.specs.declared.tables.Tables.{Tables}
use Rattle.rdb_meaning.specs.Contents.{Row, relation_named}
use Rattle.rdb_meaning.specs.Evaluation.{Scope, Tuple, bind_source, bindings_of, bind_tuple, these}
use Rattle.rdb_meaning.specs.Selecting.{selection}
use Rattle.line_view.specs.declared.need.Need.{Need}
use Rattle.line_view.specs.declared.need.Need.TheVariants.{Line, Area, Room}
use Rattle.line_view.specs.declared.stop.Never.{Never}
use Rattle.line_view.specs.declared.stop.Stop.{Stop}
use Rattle.line_view.specs.declared.stop.Stop.TheVariants as stop
use Rattle.line_view.specs.Knowledge.{Knowledge, Lines, IsInOrder, Agrees}
use Rattle.line_view.specs.Held.{Held, knows}
use Rattle.catalog.specs.declared.reading.Catalog.{Catalog}
use Rattle.sorted_index_laws.specs.Nodes.{AnyByRecursion}
use Rattle.statement_view.specs.Over.{Over, Stands, knows_over}
use Rattle.statement_view.specs.Areas.{is_among}
use Rattle.row_writes.specs.declared.target.TargetRelation.{TargetRelation}
use Rattle.row_writes.specs.Rows.{IsSoundView}
use Rattle.row_writes.specs.Areas.{areas_of, IsNodeOf}
use Rattle.row_writes.proofs.AreaLists.{StopsAt, stops_at}
use Rattle.selection_areas.specs.stored_schema.Targets.{IsTargetIn}
use Rattle.selection_areas.proofs.Placed.{target_placed}
use Rattle.rdo_values.specs.declared.bound.BoundSelection.{BoundSelection}
use Rattle.rdo_values.specs.Views.{expression_of, ranging_of}
use Rattle.rdo_values.specs.Named.{named_ranging}
use Rattle.rdo_values.specs.Places.{IsBoundRanging, ranges_in}
use Rattle.rdo_values.specs.Rows.{row_of, variables_of}
use Rattle.rdo_values.specs.Selections.{written_clause, IsBoundSelection}
use Rattle.rdo_bind.specs.declared.action.BoundAction.{BoundAction}
use Rattle.rdo_bind.specs.declared.assign.BoundAssign.{BoundAssign}
use Rattle.rdo_bind.specs.Assigning.{IsBoundAssign}
use Rattle.rdo_bind.specs.declared.action.BoundPrintItem.{BoundPrintItem}
use Rattle.rdo_bind.specs.Acting.{Act, print, for_each, Acts, act_of, acts_of, IsBoundAct}
use Rattle.rdo_bind.proofs.Lists.{variables_behind}
use Rattle.bound_actions.proofs.Same.{act_same}
use Rattle.rdo_select.specs.declared.crossing.Found.{Found}
use Rattle.rdo_select.specs.SelectStop.{SelectStop}
use Rattle.rdo_select.specs.Sources.{Listed, IsShown}
use Rattle.rdo_select.specs.Stops.{Matches, HaveValues}
use Rattle.rdo_select.specs.Work.{Does, selecting}
use Rattle.served_selections.specs.Ranges.{Chosen, chosen_in, chosen_in_ranging}
use Rattle.rdo_acts.specs.declared.scope.BoundRow.{BoundRow}
use Rattle.rdo_acts.specs.declared.stop.Refusal.{Refusal}
use Rattle.rdo_acts.specs.declared.work.Given.{Given}
use Rattle.rdo_acts.specs.declared.work.Work.{Work}
use Rattle.rdo_acts.specs.declared.acting.Outcome.{Outcome}
use Rattle.rdo_acts.specs.declared.acting.Outcome.TheVariants as outcome
use Rattle.rdo_acts.specs.Ends.{ActStop, GoTogether, HoldsIn}
use Rattle.rdo_acts.specs.Scopes.{binding_of, scope_of, missing_values}
use Rattle.rdo_acts.specs.Selections.{chosen_in_items, chosen_in_assigns, IsReadAmong, ReadsAmong, RunsAmong}
use Rattle.rdo_acts.specs.Wanted.{IsNodeIn, IsOneOf, ActWants, ActsWant, Then, IsRowOf, Lacking, RunsWanting, TuplesWanting, IsWanted, WantsSo}
use Rattle.rdo_acts.specs.Stops.{stop_of_select}
use Rattle.rdo_acts.specs.Told.{Finishes, StopsAs}
use Rattle.rdo_acts.proofs.Viewing.{shows, sound_view}
use Rattle.rdo_acts.proofs.ActEnds.{begun}
use Rattle.rdo_acts.proofs.RowMade.{stored_values}
use Rattle.rdo_acts.proofs.Lacking.{stops_left, stops_right, selection_among, one_schema_of}

-- ---- moments

-- what is so in the tables of this moment
pub now : (given : Given) (all : Lines) (start : Tables) (w : Work) (t : Tables) → HoldsIn given w all start t → (Is : Tables → Type 0) → Is t → Then given all start Is
now given all start w t holds Is is = record { work = w; tables = t; holds = holds; is = is }

pub then_so : (given : Given) (all : Lines) (start : Tables) (A B : Tables → Type 0) → ((t : Tables) → A t → B t) → Then given all start A → Then given all start B
then_so given all start A B f h = record { work = h.work; tables = h.tables; holds = h.holds; is = f h.tables h.is }

-- ---- the values that assignments compute

module _ {E : Type 0} (t : Tables) (sources : Listed) (why : Stop E) (vs : List Range) where
  pub assign_among : (as' : List BoundAssign) (i : ℕ) (a : BoundAssign) → i < length as' → a ≡ get_or as' i a → StopsAt (IsReadAmong t sources (chosen_in_assigns (a ∷ []) vs)) why → StopsAt (IsReadAmong t sources (chosen_in_assigns as' vs)) why
  assign_among [] i a within is h = absurd (omega (arith, within))
  assign_among (b ∷ bs) zero a within is h =
      let own = chosen_in (expression_of b.right) vs in
      stops_left t sources why own (chosen_in_assigns bs vs)
      (subst (λ (l : List Chosen). StopsAt (IsReadAmong t sources l) why) (append-nil own) (subst (λ (x : BoundAssign). StopsAt (IsReadAmong t sources (chosen_in_assigns (x ∷ []) vs)) why) is h))
  assign_among (b ∷ bs) (suc i) a within is h = stops_right t sources why (chosen_in (expression_of b.right) vs) (chosen_in_assigns bs vs) (assign_among bs i a (omega (arith, within)) is h)

module _ (c : Catalog) (view : Over) (sources : Listed) (fields : List Field) (assigns : List BoundAssign) where
  -- what `assign_all` says
  abbrev pub LacksRow : {T : Type 0} → Row → Result T ActStop → Type 0
  LacksRow values result = (first : Lines) (t : Tables) (scope : Scope) → IsSoundView view c t first → All (IsBoundAssign t (variables_of scope)) assigns → row_of t scope ≡ values → ReadsAmong t sources (chosen_in_assigns assigns (variables_of scope)) result

  -- what `new_row` says
  abbrev pub LacksNewRow : {T : Type 0} → Row → Result T ActStop → Type 0
  LacksNewRow values result = (first : Lines) (t : Tables) (scope : Scope) (s : Range) (table : Relation) → IsSoundView view c t first → relation_named s.relation t ≡ Some table → table.fields ≡ fields
      → All (IsBoundAssign t (variables_of scope ++ s ∷ [])) assigns → row_of t scope ≡ values → ReadsAmong t sources (chosen_in_assigns assigns (variables_of scope ++ s ∷ [])) result

  pub new_row_lacks : (T U : Type 0) (values all : Row) (why : ActStop) → all ≡ values ++ missing_values (length fields) → LacksRow {T = T} all (Err why) → LacksNewRow {T = U} values (Err why)
  new_row_lacks T U values all why whole each = λ first t scope s table sound named same are own.
      let within : Scope = scope ++ bind_source s None ∷ [] in
      let seen : row_of t within ≡ all = stored_values t scope s table fields named same ∙ ap (λ (vs : Row). vs ++ missing_values (length fields)) own ∙ sym whole in
      let vs = variables_behind (s ∷ []) scope in
      subst (λ (l : List Range). StopsAt (IsReadAmong t sources (chosen_in_assigns assigns l)) why) vs (each first t within sound (subst (λ (l : List Range). All (IsBoundAssign t l) assigns) (sym vs) are) seen)

-- ---- rows of variables

module _ (need : Need) where
  pub row_among : (vs : List BoundRow) (i : ℕ) (v : BoundRow) → i < length vs → v ≡ get_or vs i v → IsRowOf (scope_of (v ∷ [])) need → IsRowOf (scope_of vs) need
  row_among [] i v within is h = absurd (omega (arith, within))
  row_among (w ∷ ws) zero v within is (inl own) = inl (subst (λ (x : BoundRow). (k : Dbkey) × ((binding_of x).key ≡ Some k) × (need ≡ Line k)) is own)
  row_among (w ∷ ws) zero v within is (inr none) = absurd none
  row_among (w ∷ ws) (suc i) v within is h = inr (row_among ws i v (omega (arith, within)) is h)

  pub row_placed_at : (vs : List BoundRow) (i : ℕ) (v : BoundRow) → slice_get vs i ≡ Some v → IsRowOf (scope_of (v ∷ [])) need → IsRowOf (scope_of vs) need
  row_placed_at [] i v is h = absurd (none-some v is)
  row_placed_at (w ∷ ws) zero v is (inl own) = inl (subst (λ (x : BoundRow). (k : Dbkey) × ((binding_of x).key ≡ Some k) × (need ≡ Line k)) (sym (same_Some w v is)) own)
  row_placed_at (w ∷ ws) zero v is (inr none) = absurd none
  row_placed_at (w ∷ ws) (suc i) v is h = inr (row_placed_at ws i v is h)

  tuple_row : (ss : List Range) (ks : Tuple) → IsRowOf (bindings_of ss ks) need → IsOneOf ks need
  tuple_row [] ks h = absurd h
  tuple_row (s ∷ ss) [] h = absurd h
  tuple_row (s ∷ ss) (k ∷ ks) (inl own) = inl (own.2 ∙ ap Line (sym (same_Some k own.0 own.1)))
  tuple_row (s ∷ ss) (k ∷ ks) (inr later) = inr (tuple_row ss ks later)

  -- a row of the variables around, or of the tuple
  pub bound_row : (scope : Scope) (ss : List Range) (ks : Tuple) → IsRowOf (bind_tuple ss ks scope) need → IsRowOf scope need ⊎ IsOneOf ks need
  bound_row [] ss ks h = inr (tuple_row ss ks h)
  bound_row (b ∷ scope) ss ks (inl own) = inl (inl own)
  bound_row (b ∷ scope) ss ks (inr later) = elim (bound_row scope ss ks later) as (λ x. IsRowOf (b ∷ scope) need ⊎ IsOneOf ks need) [
    | inl around ↦ inl (inr around)
    | inr here ↦ inr here
  ]

  pub tuple_among : (tuples : List Found) (i : ℕ) (x : Found) → i < length tuples → x ≡ get_or tuples i x → IsOneOf x.tuple need → AnyByRecursion (λ (f : Found). IsOneOf f.tuple need) tuples
  tuple_among [] i x within is h = absurd (omega (arith, within))
  tuple_among (y ∷ ys) zero x within is h = inl (subst (λ (f : Found). IsOneOf f.tuple need) is h)
  tuple_among (y ∷ ys) (suc i) x within is h = inr (tuple_among ys i x (omega (arith, within)) is h)

  tuples_named : (tuples : List Found) → AnyByRecursion (λ (f : Found). IsOneOf f.tuple need) tuples → AnyByRecursion (λ ks. IsOneOf ks need) (map (λ f. f.tuple) tuples)
  tuples_named [] h = absurd h
  tuples_named (y ∷ ys) (inl own) = inl own
  tuples_named (y ∷ ys) (inr later) = inr (tuples_named ys later)

-- what the row at a Dbkey lacks is its line
pub line_lacked : {X : Need → Type 0} (key : Option Dbkey) (at : Dbkey) (result : Result (Option Row) (Stop Never)) → key ≡ Some at → ((need : Need) → result ≡ Err (stop.Missing need) → (need ≡ Line at) × X need)
    → Lacking (λ need. (k : Dbkey) × (key ≡ Some k) × (need ≡ Line k)) result
line_lacked key at (Ok row) is missing = tt
line_lacked key at (Err (stop.Missing need)) is missing = (at, is, (missing need refl).0)
line_lacked key at (Err (stop.Bad bad)) is missing = tt
line_lacked key at (Err stop.NoMemory) is missing = tt
line_lacked key at (Err (stop.Own never)) is missing = tt

pub row_lacked : {E : Type 0} (v : BoundRow) (why : Stop E) → StopsAt (λ need. (k : Dbkey) × (v.key ≡ Some k) × (need ≡ Line k)) why → StopsAt (IsRowOf (scope_of (v ∷ []))) why
row_lacked v why h = stops_at (λ need. (k : Dbkey) × (v.key ≡ Some k) × (need ≡ Line k)) (IsRowOf (scope_of (v ∷ []))) (λ need own. inl own) why h

-- ---- nodes of indexes

module _ (c : Catalog) (t : Tables) (n : Name) (rel : Relation) (r : TargetRelation) (named : relation_named n t ≡ Some rel) (is : IsTargetIn c t n rel r) (rooms : List ℕ) where
  pub node_in : (need : Need) → IsNodeOf (areas_of r.indexes.now) rooms need → IsNodeIn t need
  node_in (Line line) h = (n, rel, named, subst (λ (l : List ℕ). is_among l line.area ≡ true) (ap (λ (l : List ℕ). drop 1 l) (target_placed c t n rel r is)) h)
  node_in (Area area) h = h
  node_in (Room room) h = tt

-- ---- the parts of an action

module _ (t : Tables) (sources : Listed) (vs : List Range) (need : Need) where
  pub part_wants : (body : List BoundAction) (i : ℕ) (x : BoundAction) → i < length body → x ≡ get_or body i x → ActWants t sources (act_of x) vs need → ActsWant t sources (acts_of (map act_of body)) vs need
  part_wants [] i x within is h = absurd (omega (arith, within))
  part_wants (y ∷ ys) zero x within is h = inl (subst (λ (z : BoundAction). ActWants t sources (act_of z) vs need) is h)
  part_wants (y ∷ ys) (suc i) x within is h = inr (part_wants ys i x (omega (arith, within)) is h)

-- ---- an action of this form

pub form_wants : (result : Result (Unit {0}) ActStop) (given : Given) (scope : Scope) (values : Row) (action : BoundAction) (a : Act) (old : Work) → act_of action ≡ a → RunsWanting result given scope values a old → RunsWanting result given scope values (act_of action) old
form_wants result given scope values action a old e h = subst (λ (x : Act). RunsWanting result given scope values x old) (sym e) h

-- what is lacked at this moment, of the variables or of the parts
module _ (given : Given) (old : Work) (all : Lines) (start t : Tables) (holds : HoldsIn given old all start t) (scope : Scope) (a : Act) where
  abbrev Wants : Need → Type 0
  Wants need = IsRowOf scope need ⊎ Then given all start (λ u. ActWants u given.sources.now.entries a (variables_of scope) need)

  pub wants_now : (Is : Need → Type 0) → ((need : Need) → Is need → ActWants t given.sources.now.entries a (variables_of scope) need) → (why : ActStop) → StopsAt Is why → StopsAt Wants why
  wants_now Is because why h = stops_at Is Wants (λ need own. inr (now given all start old t holds (λ u. ActWants u given.sources.now.entries a (variables_of scope) need) (because need own))) why h

  pub wants_row : (why : ActStop) → StopsAt (IsRowOf scope) why → StopsAt Wants why
  wants_row why h = stops_at (IsRowOf scope) Wants (λ need own. inl own) why h

-- ---- PRINT

pub print_wanting : (result : Result (Unit {0}) ActStop) (given : Given) (scope : Scope) (values : Row) (action : BoundAction) (items : List BoundPrintItem) (old : Work) → act_of action ≡ print items → RunsAmong result given scope values (chosen_in_items items (variables_of scope)) old → RunsWanting result given scope values (act_of action) old
print_wanting (Ok done) given scope values action items old e reads = λ all start t holds own. tt
print_wanting (Err why) given scope values action items old e reads =
    form_wants (Err why) given scope values action (print items) old e
    (λ all start t holds own. wants_now given old all start t holds scope (print items) (IsReadAmong t given.sources.now.entries (chosen_in_items items (variables_of scope))) (λ need read. read) why (reads all t (sound_view given old all start t holds) own))

-- ---- a FOR

module _ (given : Given) (together : GoTogether given) (scope : Scope) (values : Row) (old : Work) (s : BoundSelection) (body : Acts) (bound : IsBoundAct (for_each s body) given.schema.now.tables (variables_of scope)) where
  selection_now : (first : Lines) (t : Tables) → IsSoundView old.view given.schema.now t first → IsBoundSelection s t (variables_of scope)
  selection_now first t is = (act_same given.schema.now.tables t (one_schema_of given old.view t first is) (for_each s body) (variables_of scope) bound).0

  pub for_stops_wanting : (why : SelectStop)
      → ((t : Tables) (sc : Scope) → IsShown (knows_over old.view) given.sources.now.entries t → IsBoundRanging (ranging_of s.inner) t (variables_of sc) → row_of t sc ≡ values → Does (knows_over old.view) (selecting (ranging_of s.inner) t given.sources.now.entries sc) (Some why))
      → RunsWanting (Err (stop_of_select why)) given scope values (for_each s body) old
  for_stops_wanting why does all start t holds own =
      let is = sound_view given old all start t holds in
      let shown = shows given together old.view t all is in
      let here = (selection_now all t is).0 in
      let sources = given.sources.now.entries in
      wants_now given old all start t holds scope (for_each s body) (IsReadAmong t sources (chosen_in_ranging (ranging_of s.inner) (variables_of scope))) (λ need read. inl read) (stop_of_select why)
      (selection_among (knows_over old.view) sources t shown scope why (ranging_of s.inner) here (does t scope shown here own))

  pub for_runs_wanting : (result : Result (Unit {0}) ActStop) (ss : List Range) (found tuples : List Found) → ss ≡ ranges_in (ranging_of s.inner) → tuples ≡ found
      → ((t : Tables) (sc : Scope) → IsShown (knows_over old.view) given.sources.now.entries t → IsBoundSelection s t (variables_of sc) → row_of t sc ≡ values → Matches (Ok found) (selection (named_ranging (ranging_of s.inner)) (map written_clause s.clauses) t sc))
      → ((t : Tables) (sc : Scope) → IsShown (knows_over old.view) given.sources.now.entries t → IsBoundRanging (ranging_of s.inner) t (variables_of sc) → row_of t sc ≡ values → HaveValues (ranges_in (ranging_of s.inner)) t sc found)
      → TuplesWanting result given scope ss tuples body old → RunsWanting result given scope values (for_each s body) old
  for_runs_wanting (Ok done) ss found tuples so same matches have runs all start t holds own = tt
  for_runs_wanting (Err why) ss found tuples so same matches have runs all start t holds own =
      let sources = given.sources.now.entries in
      let vs = variables_of scope in
      let rs = ranges_in (ranging_of s.inner) in
      let is = sound_view given old all start t holds in
      let shown = shows given together old.view t all is in
      let here = selection_now all t is in
      let beside : HaveValues ss t scope tuples = subst (λ (l : List Range). HaveValues l t scope tuples) (sym so) (subst (λ (fs : List Found). HaveValues rs t scope fs) (sym same) (have t scope shown here.0 own)) in
      let are : selection (named_ranging (ranging_of s.inner)) (map written_clause s.clauses) t scope ≡ these (map (λ f. f.tuple) tuples) =
      matches t scope shown here own ∙ ap (λ (fs : List Found). these (map (λ (f : Found). f.tuple) fs)) (sym same) in
      stops_at (λ need. IsRowOf scope need ⊎ (AnyByRecursion (λ (f : Found). IsOneOf f.tuple need) tuples ⊎ Then given all start (λ u. ActsWant u sources body (vs ++ ss) need)))
      (λ need. IsRowOf scope need ⊎ Then given all start (λ u. ActWants u sources (for_each s body) vs need))
      (λ need wanted. elim wanted as (λ x. IsRowOf scope need ⊎ Then given all start (λ u. ActWants u sources (for_each s body) vs need)) [
        | inl around ↦ inl around
        | inr (inl row) ↦ inr (now given all start old t holds (λ u. ActWants u sources (for_each s body) vs need)
            (inr (inl (record { scope = scope; variables = refl; tuples = map (λ f. f.tuple) tuples; chosen = are; row = tuples_named need tuples row }))))
        | inr (inr parts) ↦ inr (then_so given all start (λ u. ActsWant u sources body (vs ++ ss) need) (λ u. ActWants u sources (for_each s body) vs need)
            (λ u part. inr (inr (subst (λ (l : List Range). ActsWant u sources body (vs ++ l) need) so part))) parts)
      ])
      why (runs all start t holds beside)

-- ---- what comes of an action

module _ (given : Given) (all : Lines) (t : Tables) (a : Act) where
  abbrev WantsHere : Need → Type 0
  WantsHere need = Then given all t (λ u. ActWants u given.sources.now.entries a [] need)

  stopped_wanted : (o : Outcome) (why : ActStop) (keys : List Dbkey) (known : Knowledge) → StopsAs o why keys known → StopsAt WantsHere why → IsWanted o given all t a
  stopped_wanted o (stop.Missing need) keys known (inl is) h = subst (λ (x : Outcome). IsWanted x given all t a) (sym is.is) h
  stopped_wanted o (stop.Missing need) keys known (inr is) h = subst (λ (x : Outcome). IsWanted x given all t a) (sym is) tt
  stopped_wanted o (stop.Bad key) keys known is h = subst (λ (x : Outcome). IsWanted x given all t a) (sym is) tt
  stopped_wanted o stop.NoMemory keys known is h = subst (λ (x : Outcome). IsWanted x given all t a) (sym is) tt
  stopped_wanted o (stop.Own refusal) keys known is h = subst (λ (x : Outcome). IsWanted x given all t a) (sym is) tt

  finished_wanted : (o : Outcome) (w : Work) → Finishes o w → IsWanted o given all t a
  finished_wanted (outcome.Done what) w is = tt
  finished_wanted (outcome.Refused refusal keys) w is = tt
  finished_wanted (outcome.Missing needs) w is = absurd is
  finished_wanted (outcome.Bad key) w is = tt
  finished_wanted outcome.NoMemory w is = tt

  -- behind no variables
  pub no_variables : {E : Type 0} (why : Stop E) → StopsAt (λ need. IsRowOf [] need ⊎ Then given all t (λ u. ActWants u given.sources.now.entries a [] need)) why → StopsAt WantsHere why
  no_variables why h = stops_at (λ need. IsRowOf [] need ⊎ WantsHere need) WantsHere (λ need wanted. elim wanted as (λ x. WantsHere need) [ inl none ↦ absurd none | inr own ↦ own ]) why h

pub begin_wants : (given : Given) (all : Lines) (t : Tables) (a : Act) (result : Result (Unit {0}) ActStop) → Lacking (λ need. IsRowOf [] need ⊎ Then given all t (λ u. ActWants u given.sources.now.entries a [] need)) result → Lacking (λ need. Then given all t (λ u. ActWants u given.sources.now.entries a [] need)) result
begin_wants given all t a (Ok done) h = tt
begin_wants given all t a (Err why) h = no_variables given all t a why h

module _ (given : Given) (a : Act) (known : Held) (view : Over) (w : Work) (fresh : view.lines ≡ []) (stands : (first : Lines) → IsInOrder first → Agrees (knows known) first → Stands view first)
    (empty : w ≡ record { view = view; lines = []; given = [] }) where
  pub act_done_wanted : (new : Work) (o : Outcome) → Finishes o new → WantsSo o a (knows known) given
  act_done_wanted new o is all t agrees sound = finished_wanted given all t a o new is

  pub act_stopped_wanted : (then : Knowledge) (keys : List Dbkey) (o : Outcome) (why : ActStop) → StopsAs o why keys then
      → ((all : Lines) (t : Tables) → HoldsIn given w all t t → Lacking {T = Unit {0}} {E = Refusal} (λ need. Then given all t (λ u. ActWants u given.sources.now.entries a [] need)) (Err why)) → WantsSo o a (knows known) given
  act_stopped_wanted then keys o why is wants all t agrees sound = stopped_wanted given all t a o why keys then is (wants all t (begun given known view w fresh stands empty all t agrees sound))
