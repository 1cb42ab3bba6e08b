-- What selections, values and actions that write nothing lack is what is read of a relation of their selections.
use Rattle.std.proofs.Common.{◌≡◌, ℕ, zero, suc, ◌<◌, true, false, List, [], ◌∷◌, ◌++◌, map, length, get_or, Ok, Err, Result, Some, inl, inr, sym, ap, subst, ◌∙◌, append-nil, arith}
use Rattle.std.specs.List.{AllByRecursion}
use Rattle.rdb_types.specs.declared.keys.Dbkey.{Dbkey}
use Rattle.rdo_ast.specs.declared.syntax.Range.{Range}
use Rattle.rdb_meaning.specs.declared.tables.Tables.{Tables}
use Rattle.rdb_meaning.specs.Contents.{Row}
use Rattle.rdb_meaning.specs.Evaluation.{Scope, bind_tuple}
use Rattle.line_view.specs.declared.need.Need.{Need}
use Rattle.line_view.specs.declared.stop.Stop.{Stop}
use Rattle.line_view.specs.declared.stop.Stop.TheVariants.{Missing, Bad, NoMemory, Own}
use Rattle.line_view.specs.Knowledge.{Knowledge, Lines, IsInOrder, Agrees}
use Rattle.line_view.specs.Held.{Held, knows}
use Rattle.schema_alone.specs.Schema.{OneSchema}
use Rattle.sound_changes.specs.Standing.{IsSoundAs}
use Rattle.sound_changes.proofs.Schemas.{catalogs_schema}
use Rattle.bound_actions.proofs.Same.{act_same}
use Rattle.statement_view.specs.Over.{Over, Stands, knows_over, laid_over}
use Rattle.row_writes.specs.Rows.{IsSoundView}
use Rattle.row_writes.proofs.AreaLists.{StopsAt, stops_at}
use Rattle.rdo_values.specs.declared.bound.BoundSelection.{BoundSelection}
use Rattle.rdo_values.specs.declared.bound.BoundRange.{BoundRange}
use Rattle.rdo_values.specs.Tree.{Expression, Ranging}
use Rattle.rdo_values.specs.Views.{expression_of, ranging_of}
use Rattle.rdo_values.specs.Places.{IsBound, IsBoundRanging, ranges_in}
use Rattle.rdo_values.specs.Rows.{row_of, variables_of}
use Rattle.rdo_bind.specs.declared.action.BoundAction.{BoundAction}
use Rattle.rdo_bind.specs.declared.action.BoundPrintItem.{BoundPrintItem}
use Rattle.rdo_bind.specs.declared.action.BoundPrintItem.TheVariants.{Value, Fields}
use Rattle.rdo_bind.specs.Acting.{Act, Acts, for_each, act_of, acts_of, IsBoundAct}
use Rattle.rdo_select.specs.declared.crossing.Found.{Found}
use Rattle.rdo_select.specs.SelectStop.{SelectStop}
use Rattle.rdo_select.specs.Sources.{Listed, IsShown}
use Rattle.rdo_select.specs.Stops.{HaveValues}
use Rattle.rdo_select.specs.Readings.{LacksFirst}
use Rattle.rdo_select.specs.Work.{Work as Reading, Does, valuing, selecting}
use Rattle.served_selections.specs.Ranges.{Chosen, chosen_in, chosen_in_ranging}
use Rattle.served_selections.proofs.Lists.{any_left, any_right}
use Rattle.served_selections.proofs.Lacked.{expression_lacks, selection_lacks}
use Rattle.rdo_acts.specs.declared.stop.Refusal.{Refusal}
use Rattle.rdo_acts.specs.declared.work.Given.{Given}
use Rattle.rdo_acts.specs.declared.work.Work.{Work}
use Rattle.rdo_acts.specs.declared.acting.Outcome.{Outcome}
use Rattle.rdo_acts.specs.declared.acting.Outcome.TheVariants as outcome
use Rattle.rdo_acts.specs.Ends.{ActStop, GoTogether}
use Rattle.rdo_acts.specs.Scopes.{may_write}
use Rattle.rdo_acts.specs.Selections.{chosen_in_items, chosen_in_act, chosen_in_acts, IsReadAmong, ReadsAmong, RunsAmong, IsAmong, LacksAmong}
use Rattle.rdo_acts.specs.Stops.{stop_of_select}
use Rattle.rdo_acts.specs.Told.{Finishes, StopsAs}
use Rattle.rdo_acts.proofs.Viewing.{shows, sound_view}
use Rattle.rdo_acts.proofs.ActEnds.{begun}

-- ---- selections and values

does_at : (next : Need → Type 0) (known : Knowledge) (w : Reading) → ((need : Need) → LacksFirst known w.readings need → next need) → (stop : SelectStop) → Does known w (Some stop) → StopsAt next (stop_of_select stop)
does_at next known w because (Missing need) does = because need does
does_at next known w because (Bad key) does = tt
does_at next known w because NoMemory does = tt
does_at next known w because (Own past) does = tt

module _ (seen : Knowledge) (sources : Listed) (t : Tables) (shown : IsShown seen sources t) (scope : Scope) (stop : SelectStop) where
  pub value_among : (e : Expression) → IsBound e t (variables_of scope) → Does seen (valuing e t sources scope) (Some stop) → StopsAt (IsReadAmong t sources (chosen_in e (variables_of scope))) (stop_of_select stop)
  value_among e bound does = does_at (IsReadAmong t sources (chosen_in e (variables_of scope))) seen (valuing e t sources scope) (λ need lacks. expression_lacks seen sources t need shown scope e bound lacks) stop does

  pub selection_among : (r : Ranging) → IsBoundRanging r t (variables_of scope) → Does seen (selecting r t sources scope) (Some stop) → StopsAt (IsReadAmong t sources (chosen_in_ranging r (variables_of scope))) (stop_of_select stop)
  selection_among r bound does = does_at (IsReadAmong t sources (chosen_in_ranging r (variables_of scope))) seen (selecting r t sources scope) (λ need lacks. selection_lacks seen sources t need shown scope r bound lacks) stop does

-- ---- among more relations

module _ {E : Type 0} (t : Tables) (sources : Listed) (stop : Stop E) where
  pub stops_left : (cs ds : List Chosen) → StopsAt (IsReadAmong t sources cs) stop → StopsAt (IsReadAmong t sources (cs ++ ds)) stop
  stops_left cs ds h = stops_at (IsReadAmong t sources cs) (IsReadAmong t sources (cs ++ ds)) (λ need own. any_left _ cs ds own) stop h

  pub stops_right : (cs ds : List Chosen) → StopsAt (IsReadAmong t sources ds) stop → StopsAt (IsReadAmong t sources (cs ++ ds)) stop
  stops_right cs ds h = stops_at (IsReadAmong t sources ds) (IsReadAmong t sources (cs ++ ds)) (λ need own. any_right _ cs ds own) stop h

  module _ (vs : List Range) where
    first_item : (x : BoundPrintItem) (xs : List BoundPrintItem) → StopsAt (IsReadAmong t sources (chosen_in_items (x ∷ []) vs)) stop → StopsAt (IsReadAmong t sources (chosen_in_items (x ∷ xs) vs)) stop
    first_item (Value e) xs h =
        let own = chosen_in (expression_of e) vs in
        stops_left own (chosen_in_items xs vs) (subst (λ (l : List Chosen). StopsAt (IsReadAmong t sources l) stop) (append-nil own) h)
    first_item (Fields v) xs h = stops_at (IsReadAmong t sources []) (IsReadAmong t sources (chosen_in_items xs vs)) (λ need none. absurd none) stop h

    more_items : (x : BoundPrintItem) (xs : List BoundPrintItem) → StopsAt (IsReadAmong t sources (chosen_in_items xs vs)) stop → StopsAt (IsReadAmong t sources (chosen_in_items (x ∷ xs) vs)) stop
    more_items (Value e) xs h = stops_right (chosen_in (expression_of e) vs) (chosen_in_items xs vs) h
    more_items (Fields v) xs h = h

    pub item_among : (items : List BoundPrintItem) (i : ℕ) (x : BoundPrintItem) → i < length items → x ≡ get_or items i x → StopsAt (IsReadAmong t sources (chosen_in_items (x ∷ []) vs)) stop → StopsAt (IsReadAmong t sources (chosen_in_items items vs)) stop
    item_among [] i x within is h = absurd (omega (arith, within))
    item_among (y ∷ ys) zero x within is h = first_item y ys (subst (λ (z : BoundPrintItem). StopsAt (IsReadAmong t sources (chosen_in_items (z ∷ []) vs)) stop) is h)
    item_among (y ∷ ys) (suc i) x within is h = more_items y ys (item_among ys i x (omega (arith, within)) is h)

    pub action_among : (body : List BoundAction) (i : ℕ) (x : BoundAction) → i < length body → x ≡ get_or body i x → StopsAt (IsReadAmong t sources (chosen_in_act (act_of x) vs)) stop → StopsAt (IsReadAmong t sources (chosen_in_acts (acts_of (map act_of body)) vs)) stop
    action_among [] i x within is h = absurd (omega (arith, within))
    action_among (y ∷ ys) zero x within is h = stops_left (chosen_in_act (act_of y) vs) (chosen_in_acts (acts_of (map act_of ys)) vs) (subst (λ (z : BoundAction). StopsAt (IsReadAmong t sources (chosen_in_act (act_of z) vs)) stop) is h)
    action_among (y ∷ ys) (suc i) x within is h = stops_right (chosen_in_act (act_of y) vs) (chosen_in_acts (acts_of (map act_of ys)) vs) (action_among ys i x (omega (arith, within)) is h)

-- ---- the tuples of a FOR

each_at : {X : Type 0} (P : X → Type 0) (xs : List X) (i : ℕ) (x : X) → AllByRecursion P xs → i < length xs → x ≡ get_or xs i x → P x
each_at P [] i x each within is = absurd (omega (arith, within))
each_at P (y ∷ xs) zero x each within is = subst P (sym is) each.0
each_at P (y ∷ xs) (suc i) x each within is = each_at P xs i x each.1 (omega (arith, within)) is

-- the values beside a tuple are those of its rows
pub tuple_values : (t : Tables) (scope : Scope) (ranges : List BoundRange) (ss : List Range) (tuples : List Found) (i : ℕ) (x : Found) (bound : Scope) → i < length tuples → x ≡ get_or tuples i x → length ranges ≡ length ss
    → (length x.tuple ≡ length ranges → bound ≡ bind_tuple ss x.tuple scope) → HaveValues ss t scope tuples → row_of t bound ≡ x.row
tuple_values t scope ranges ss tuples i x bound within is count binds have =
    let own = each_at (λ (f : Found). (length f.tuple ≡ length ss) × (f.row ≡ row_of t (bind_tuple ss f.tuple scope))) tuples i x have within is in
    ap (row_of t) (binds (own.0 ∙ sym count)) ∙ sym own.1

-- ---- an action

view_same : (given : Given) (old new : Over) (t : Tables) (first : Lines) → new ≡ old → IsSoundView old given.schema.now t first → IsSoundView new given.schema.now t first
view_same given old new t first same is = subst (λ (o : Over). IsSoundView o given.schema.now t first) (sym same) is

pub one_schema_of : (given : Given) (o : Over) (t : Tables) (first : Lines) → IsSoundView o given.schema.now t first → OneSchema given.schema.now.tables t
one_schema_of given o t first is = catalogs_schema (laid_over o.lines first) given.schema.now t (is.sound).are

-- what is lacked of an action of this form
pub form_among : (result : Result (Unit {0}) ActStop) (given : Given) (scope : Scope) (values : Row) (action : BoundAction) (a : Act) (old : Work) → act_of action ≡ a → RunsAmong result given scope values (chosen_in_act a (variables_of scope)) old
    → RunsAmong result given scope values (chosen_in_act (act_of action) (variables_of scope)) old
form_among result given scope values action a old e h = subst (λ (x : Act). RunsAmong result given scope values (chosen_in_act x (variables_of scope)) old) (sym e) h

-- a form that writes isn't one that doesn't
pub none_writes : (action : BoundAction) (a : Act) → act_of action ≡ a → may_write a ≡ true → may_write (act_of action) ≡ false → ⊥
none_writes action a e writes none = let bad : true ≡ false = sym writes ∙ ap may_write (sym e) ∙ none in cc

-- ---- what comes of an action

module _ (t : Tables) (sources : Listed) (cs : List Chosen) where
  stopped_among : (o : Outcome) (why : ActStop) (keys : List Dbkey) (known : Knowledge) → StopsAs o why keys known → StopsAt (IsReadAmong t sources cs) why → IsAmong o t sources cs
  stopped_among o (Missing need) keys known (inl is) h = subst (λ (x : Outcome). IsAmong x t sources cs) (sym is.is) h
  stopped_among o (Missing need) keys known (inr is) h = subst (λ (x : Outcome). IsAmong x t sources cs) (sym is) tt
  stopped_among o (Bad key) keys known is h = subst (λ (x : Outcome). IsAmong x t sources cs) (sym is) tt
  stopped_among o NoMemory keys known is h = subst (λ (x : Outcome). IsAmong x t sources cs) (sym is) tt
  stopped_among o (Own refusal) keys known is h = subst (λ (x : Outcome). IsAmong x t sources cs) (sym is) tt

  finished_among : (o : Outcome) (w : Work) → Finishes o w → IsAmong o t sources cs
  finished_among (outcome.Done what) w is = tt
  finished_among (outcome.Refused refusal given) w is = tt
  finished_among (outcome.Missing needs) w is = absurd is
  finished_among (outcome.Bad key) w is = tt
  finished_among outcome.NoMemory w is = tt

module _ (given : Given) (a : Act) (known : Held) (view : Over) (w : Work) (fresh : view.lines ≡ []) (stands : (first : Lines) → IsInOrder first → Agrees (knows known) first → Stands view first)
    (empty : w ≡ record { view = view; lines = []; given = [] }) where
  begun_view : (all : Lines) (t : Tables) → Agrees (knows known) all → IsSoundAs all given.schema.now t → IsSoundView w.view given.schema.now t all
  begun_view all t agrees sound = sound_view given w all t t (begun given known view w fresh stands empty all t agrees sound)

  pub act_done_among : (new : Work) (o : Outcome) → Finishes o new → LacksAmong o a (knows known) given
  act_done_among new o is none all t agrees sound = finished_among t given.sources.now.entries (chosen_in_act a []) o new is

  pub act_stopped_among : (then : Knowledge) (keys : List Dbkey) (o : Outcome) (why : ActStop) → StopsAs o why keys then
      → (may_write a ≡ false → (first : Lines) (t : Tables) → IsSoundView w.view given.schema.now t first → ReadsAmong {T = Unit {0}} {E = Refusal} t given.sources.now.entries (chosen_in_act a []) (Err why)) → LacksAmong o a (knows known) given
  act_stopped_among then keys o why is reads none all t agrees sound = stopped_among t given.sources.now.entries (chosen_in_act a []) o why keys then is (reads none all t (begun_view all t agrees sound))

-- ---- a FOR

module _ (given : Given) (together : GoTogether given) (scope : Scope) (values : Row) (old : Work) (s : BoundSelection) (body : Acts) (bound : IsBoundAct (for_each s body) given.schema.now.tables (variables_of scope)) where
  pub for_bound_now : (first : Lines) (t : Tables) → IsSoundView old.view given.schema.now t first → IsBoundRanging (ranging_of s.inner) t (variables_of scope)
  for_bound_now first t is = (act_same given.schema.now.tables t (one_schema_of given old.view t first is) (for_each s body) (variables_of scope) bound).0.0

  pub for_stops_among : (stop : SelectStop)
      → ((t : Tables) (sc : Scope) → IsShown (knows_over old.view) given.sources.now.entries t → IsBoundRanging (ranging_of s.inner) t (variables_of sc) → row_of t sc ≡ values → Does (knows_over old.view) (selecting (ranging_of s.inner) t given.sources.now.entries sc) (Some stop))
      → RunsAmong (Err (stop_of_select stop)) given scope values (chosen_in_act (for_each s body) (variables_of scope)) old
  for_stops_among stop does first t is own =
      let shown = shows given together old.view t first is in
      let here = for_bound_now first t is in
      let sources = given.sources.now.entries in
      stops_left t sources (stop_of_select stop) (chosen_in_ranging (ranging_of s.inner) (variables_of scope)) (chosen_in_acts body (variables_of scope ++ ranges_in (ranging_of s.inner)))
      (selection_among (knows_over old.view) sources t shown scope stop (ranging_of s.inner) here (does t scope shown here own))

  pub for_runs_among : (result : Result (Unit {0}) ActStop) (ss : List Range) (found tuples : List Found) → ss ≡ ranges_in (ranging_of s.inner) → tuples ≡ found
      → ((t : Tables) (sc : Scope) → IsShown (knows_over old.view) given.sources.now.entries t → IsBoundRanging (ranging_of s.inner) t (variables_of sc) → row_of t sc ≡ values → HaveValues (ranges_in (ranging_of s.inner)) t sc found)
      → ((first : Lines) (t : Tables) → IsSoundView old.view given.schema.now t first → HaveValues ss t scope tuples → ReadsAmong t given.sources.now.entries (chosen_in_acts body (variables_of scope ++ ss)) result)
      → RunsAmong result given scope values (chosen_in_act (for_each s body) (variables_of scope)) old
  for_runs_among (Ok done) ss found tuples so same have runs first t is own = tt
  for_runs_among (Err stop) ss found tuples so same have runs first t is own =
      let sources = given.sources.now.entries in
      let vs = variables_of scope in
      let rs = ranges_in (ranging_of s.inner) in
      let beside : HaveValues ss t scope tuples =
      subst (λ (l : List Range). HaveValues l t scope tuples) (sym so) (subst (λ (fs : List Found). HaveValues rs t scope fs) (sym same) (have t scope (shows given together old.view t first is) (for_bound_now first t is) own)) in
      stops_right t sources stop (chosen_in_ranging (ranging_of s.inner) vs) (chosen_in_acts body (vs ++ rs))
      (subst (λ (l : List Range). StopsAt (IsReadAmong t sources (chosen_in_acts body (vs ++ l))) stop) so (runs first t is beside))
