-- Each action runs as its arm.
use Rattle.std.proofs.Common.{◌≡◌, List, map, Some, Result, Ok, Err, refl, sym, subst, rules}
use Rattle.std.specs.List.{All}
use Rattle.rdo_ast.specs.declared.syntax.Range.{Range}
use Rattle.rdb_meaning.specs.declared.tables.Tables.{Tables}
use Rattle.rdb_meaning.specs.Contents.{Row}
use Rattle.rdb_meaning.specs.Checks.{act_uses, ranging_uses}
use Rattle.rdb_meaning.specs.Evaluation.{Scope, bind_sources}
use Rattle.rdb_meaning.specs.Selecting.{selection}
use Rattle.rdb_meaning.specs.Execution.{done, stored, modified, erased}
use Rattle.statement_view.specs.Over.{knows_over}
use Rattle.rdo_values.specs.declared.bound.BoundRange.{BoundRange}
use Rattle.rdo_values.specs.declared.bound.BoundSelection.{BoundSelection}
use Rattle.rdo_values.specs.declared.bound.BoundInner.{out-BoundInner}
use Rattle.rdo_values.specs.Views.{ranging_of}
use Rattle.rdo_values.specs.Named.{named_ranging}
use Rattle.rdo_values.specs.Rows.{row_of, variables_of}
use Rattle.rdo_values.specs.Places.{IsBoundRanging, ranges_in}
use Rattle.rdo_values.specs.Selections.{written_clause, IsBoundSelection}
use Rattle.rdo_bind.specs.declared.assign.BoundAssign.{BoundAssign}
use Rattle.rdo_bind.specs.declared.variable.BoundVariable.{BoundVariable}
use Rattle.rdo_bind.specs.declared.action.BoundPrintItem.{BoundPrintItem}
use Rattle.rdo_bind.specs.declared.action.BoundAction as actions
use Rattle.rdo_bind.specs.declared.action.BoundAction.{BoundAction}
use Rattle.rdo_bind.specs.Assigning.{written_assign}
use Rattle.rdo_bind.specs.Acting.{Act, store, for_each, print, modify, erase, Acts, act_of, acts_of, named_act, named_acts, written_item, IsBoundItem, IsBoundAct}
use Rattle.rdo_select.specs.declared.crossing.Found.{Found}
use Rattle.rdo_select.specs.SelectStop.{SelectStop}
use Rattle.rdo_select.specs.Chosen.{with_behind}
use Rattle.rdo_select.specs.Crossed.{ranges_of}
use Rattle.rdo_select.specs.Sources.{IsShown}
use Rattle.rdo_select.specs.Reasons.{IsSelectReason}
use Rattle.rdo_select.specs.Work.{Does, selecting}
use Rattle.rdo_select.specs.Stops.{Matches, HaveValues}
use Rattle.rdo_select.proofs.Matchings.{parts_ranges}
use Rattle.rdo_acts.specs.declared.stop.Refusal.{Refusal}
use Rattle.rdo_acts.specs.declared.work.Given.{Given}
use Rattle.rdo_acts.specs.declared.work.Work.{Work}
use Rattle.rdo_acts.specs.Printing.{prints}
use Rattle.rdo_acts.specs.Ends.{ActStop, GoTogether, Runs, RunsOver}
use Rattle.rdo_acts.specs.Areas.{scope_uses, action_uses, body_uses, KeepsFor, RunsFor, RunsOverFor}
use Rattle.rdo_acts.specs.Stops.{stop_of_select}
use Rattle.rdo_acts.proofs.Viewing.{sound_view}
use Rattle.rdo_acts.proofs.UsesWithin.{behind, keeps_within}
use Rattle.rdo_acts.proofs.AreasRead.{selection_reads, reading_keeps, at_start}
use Rattle.rdo_acts.proofs.ScopeUses.{body_within, selection_within}
use Rattle.rdo_acts.proofs.Bodies.{tuples_job}
use Rattle.rdo_acts.proofs.Selected.{shown, selection_bound, selects, not_selected}

-- ---- which action it is

pub is_print : (action : BoundAction) (items items' : List BoundPrintItem) → action ≡ actions.Print items → items' ≡ items → act_of action ≡ print items'
is_print action items items' is same = search (rules, actions.the_lemmas)

pub is_store : (action : BoundAction) (s : BoundRange) (as' as'' : List BoundAssign) → action ≡ actions.Store s as' → as'' ≡ as' → act_of action ≡ store s as''
is_store action s as' as'' is same = search (rules, actions.the_lemmas)

pub is_modify : (action : BoundAction) (v : BoundVariable) (as' as'' : List BoundAssign) → action ≡ actions.Modify v as' → as'' ≡ as' → act_of action ≡ modify v as''
is_modify action v as' as'' is same = search (rules, actions.the_lemmas)

pub is_erase : (action : BoundAction) (v : BoundVariable) → action ≡ actions.Erase v → act_of action ≡ erase v
is_erase action v is = search (rules, actions.the_lemmas)

pub is_for : (action : BoundAction) (s : BoundSelection) (body body' : List BoundAction) → action ≡ actions.For s body → body' ≡ body → act_of action ≡ for_each s (acts_of (map act_of body'))
is_for action s body body' is same = search (rules, actions.the_lemmas)

module _ (given : Given) (scope : Scope) (action : BoundAction) (bound : IsBoundAct (act_of action) given.schema.now.tables (variables_of scope)) where
  pub bound_so : (a : Act) → act_of action ≡ a → IsBoundAct a given.schema.now.tables (variables_of scope)
  bound_so a e = subst (λ (x : Act). IsBoundAct x given.schema.now.tables (variables_of scope)) e bound

  module _ (s : BoundSelection) (body : List BoundAction) (is : act_of action ≡ for_each s (acts_of (map act_of body))) (ranges : List BoundRange) (same : ranges ≡ (out-BoundInner s.inner).ranges) where
    pub for_bound : IsBoundAct (for_each s (acts_of (map act_of body))) given.schema.now.tables (variables_of scope)
    for_bound = bound_so (for_each s (acts_of (map act_of body))) is

    pub ranges_same : ranges_of ranges ≡ ranges_in (ranging_of s.inner)
    ranges_same = parts_ranges s.inner ranges (with_behind (out-BoundInner s.inner).condition) (record { ranges = same; condition = refl })

-- ---- each arm runs the action

module _ (given : Given) (scope : Scope) (action : BoundAction) (bound : IsBoundAct (act_of action) given.schema.now.tables (variables_of scope)) (values : Row) (old new : Work) (result : Result (Unit {0}) ActStop) where
  abbrev RunsAction : Type 0
  RunsAction = Runs result given scope values (λ start. done (named_act (act_of action)) start scope) old new

  runs_so : (a : Act) → act_of action ≡ a → Runs result given scope values (λ start. done (named_act a) start scope) old new → RunsAction
  runs_so a e h = subst (λ (x : Act). Runs result given scope values (λ start. done (named_act x) start scope) old new) (sym e) h

  pub print_runs : (items : List BoundPrintItem) → act_of action ≡ print items →
      ((sc : Scope) → All (IsBoundItem given.schema.now.tables (variables_of sc)) items → Runs result given sc values (prints (map written_item items) sc) old new) → RunsAction
  print_runs items e runs = runs_so (print items) e (runs scope (bound_so given scope action bound (print items) e))

  pub store_runs : (s : BoundRange) (as' : List BoundAssign) → act_of action ≡ store s as' →
      ((sc : Scope) → IsBoundAct (store s as') given.schema.now.tables (variables_of sc) → Runs result given sc values (λ start. stored s.range (map written_assign as') start sc) old new) → RunsAction
  store_runs s as' e runs = runs_so (store s as') e (runs scope (bound_so given scope action bound (store s as') e))

  pub modify_runs : (v : BoundVariable) (as' : List BoundAssign) → act_of action ≡ modify v as' → Runs result given scope values (λ start. modified v.variable (map written_assign as') scope) old new → RunsAction
  modify_runs v as' e runs = runs_so (modify v as') e runs

  pub erase_runs : (v : BoundVariable) → act_of action ≡ erase v → Runs result given scope values (λ start. erased v.variable scope) old new → RunsAction
  erase_runs v e runs = runs_so (erase v) e runs

  module _ (s : BoundSelection) (body : List BoundAction) (is : act_of action ≡ for_each s (acts_of (map act_of body))) (ranges : List BoundRange) (same : ranges ≡ (out-BoundInner s.inner).ranges) where
    abbrev acts : Acts
    acts = acts_of (map act_of body)

    pub for_runs : GoTogether given → (found tuples : List Found) → tuples ≡ found →
        ((t : Tables) (sc : Scope) → IsShown (knows_over old.view) given.sources.now.entries t → IsBoundSelection s t (variables_of sc) → row_of t sc ≡ values → Matches (Ok found) (selection (named_ranging (ranging_of s.inner)) (map written_clause s.clauses) t sc)) →
        ((t : Tables) (sc : Scope) → IsShown (knows_over old.view) given.sources.now.entries t → IsBoundRanging (ranging_of s.inner) t (variables_of sc) → row_of t sc ≡ values → HaveValues (ranges_in (ranging_of s.inner)) t sc found) →
        RunsOver result given scope (ranges_of ranges) tuples (λ start. tuples_job (named_acts acts) start scope (ranges_of ranges) tuples) old new → RunsAction
    for_runs together found tuples all_same matches have runs =
        let so = ranges_same given scope action bound s body is ranges same in
        let whole = for_bound given scope action bound s body is ranges same in
        runs_so (for_each s acts) is (λ all start t holds own.
        let seen = shown given together old scope values s acts whole all start t holds own in
        let here = selection_bound given together old scope values s acts whole all start t holds own in
        let are = subst (λ (fs : List Found). Matches (Ok fs) (selection (named_ranging (ranging_of s.inner)) (map written_clause s.clauses) t scope)) (sym all_same) (matches t scope seen here own) in
        let beside : HaveValues (ranges_of ranges) t scope tuples =
        subst (λ (ss : List Range). HaveValues ss t scope tuples) (sym so) (subst (λ (fs : List Found). HaveValues (ranges_in (ranging_of s.inner)) t scope fs) (sym all_same) (have t scope seen here.0 own)) in
        selects given together old scope values s acts whole all start t holds own result new tuples (ranges_of ranges) so are (runs all start t holds beside))

-- a selection that isn't done ends the FOR
pub for_ends : (given : Given) (scope : Scope) (values : Row) (w : Work) (action : BoundAction) → IsBoundAct (act_of action) given.schema.now.tables (variables_of scope) → (s : BoundSelection) (body : List BoundAction) →
    act_of action ≡ for_each s (acts_of (map act_of body)) → GoTogether given → (why : SelectStop) →
    ((t : Tables) (sc : Scope) → IsShown (knows_over w.view) given.sources.now.entries t → IsBoundSelection s t (variables_of sc) → row_of t sc ≡ values → Matches (Err why) (selection (named_ranging (ranging_of s.inner)) (map written_clause s.clauses) t sc)) →
    ((t : Tables) (sc : Scope) → IsShown (knows_over w.view) given.sources.now.entries t → IsBoundRanging (ranging_of s.inner) t (variables_of sc) → row_of t sc ≡ values → Does (knows_over w.view) (selecting (ranging_of s.inner) t given.sources.now.entries sc) (Some why)) →
    IsSelectReason (knows_over w.view) given.sources.now.entries why → Runs (Err (stop_of_select why)) given scope values (λ start. done (named_act (act_of action)) start scope) w w
for_ends given scope values w action bound s body is together why matches does reason =
    let acts : Acts = acts_of (map act_of body) in
    let for_bound : IsBoundAct (for_each s acts) given.schema.now.tables (variables_of scope) = subst (λ (x : Act). IsBoundAct x given.schema.now.tables (variables_of scope)) is bound in
    subst (λ (x : Act). Runs (Err (stop_of_select why)) given scope values (λ start. done (named_act x) start scope) w w) (sym is) (λ all start t holds own.
    let seen = shown given together w scope values s acts for_bound all start t holds own in
    let here = selection_bound given together w scope values s acts for_bound all start t holds own in
    not_selected given together w scope values s acts for_bound all start t holds own why (matches t scope seen here own) (does t scope seen here.0 own) reason)

-- ---- in which areas

-- an arm that keeps to its own uses
pub arm_keeps : (given : Given) (scope : Scope) (action : BoundAction) (values : Row) (old new : Work) (result : Result (Unit {0}) ActStop) (a : Act) → act_of action ≡ a → RunsFor result given scope values (act_uses (named_act a) scope) old new →
    RunsFor result given scope values (action_uses (act_of action) scope) old new
arm_keeps given scope action values old new result a e runs = λ all start t holds own.
    subst (λ (x : Act). KeepsFor start (action_uses x scope) old.view new.view result) (sym e)
    (keeps_within start (act_uses (named_act a) scope) (action_uses a scope) (behind start (scope_uses scope) (act_uses (named_act a) scope)) old.view new.view result (runs all start t holds own))

module _ (given : Given) (scope : Scope) (action : BoundAction) (bound : IsBoundAct (act_of action) given.schema.now.tables (variables_of scope)) (values : Row) (old new : Work) (result : Result (Unit {0}) ActStop)
    (s : BoundSelection) (body : List BoundAction) (is : act_of action ≡ for_each s (acts_of (map act_of body))) (ranges : List BoundRange) (same : ranges ≡ (out-BoundInner s.inner).ranges) where
  pub for_keeps : GoTogether given → (found tuples : List Found) → tuples ≡ found →
      ((t : Tables) (sc : Scope) → IsShown (knows_over old.view) given.sources.now.entries t → IsBoundRanging (ranging_of s.inner) t (variables_of sc) → row_of t sc ≡ values → HaveValues (ranges_in (ranging_of s.inner)) t sc found) →
      RunsOverFor result given scope (ranges_of ranges) tuples (body_uses (acts_of (map act_of body)) (bind_sources (ranges_of ranges) scope)) old new →
      RunsFor result given scope values (action_uses (act_of action) scope) old new
  for_keeps together found tuples all_same have runs =
      let acts = acts_of (map act_of body) in
      let so = ranges_same given scope action bound s body is ranges same in
      let whole = for_bound given scope action bound s body is ranges same in
      λ all start t holds own.
      let seen = shown given together old scope values s acts whole all start t holds own in
      let here = selection_bound given together old scope values s acts whole all start t holds own in
      let beside : HaveValues (ranges_of ranges) t scope tuples =
      subst (λ (ss : List Range). HaveValues ss t scope tuples) (sym so) (subst (λ (fs : List Found). HaveValues (ranges_in (ranging_of s.inner)) t scope fs) (sym all_same) (have t scope seen here.0 own)) in
      subst (λ (x : Act). KeepsFor start (action_uses x scope) old.view new.view result) (sym is)
      (keeps_within start (body_uses acts (bind_sources (ranges_of ranges) scope)) (action_uses (for_each s acts) scope) (body_within start (ranging_of s.inner) acts (ranges_of ranges) scope so) old.view new.view result (runs all start t holds beside))

-- a selection that isn't done lacks what it reads
pub for_stops_for : (given : Given) (scope : Scope) (values : Row) (w : Work) (action : BoundAction) → IsBoundAct (act_of action) given.schema.now.tables (variables_of scope) → (s : BoundSelection) (body : List BoundAction) →
    act_of action ≡ for_each s (acts_of (map act_of body)) → GoTogether given → (why : SelectStop) →
    ((t : Tables) (sc : Scope) → IsShown (knows_over w.view) given.sources.now.entries t → IsBoundRanging (ranging_of s.inner) t (variables_of sc) → row_of t sc ≡ values → Does (knows_over w.view) (selecting (ranging_of s.inner) t given.sources.now.entries sc) (Some why)) →
    RunsFor (Err (stop_of_select why)) given scope values (action_uses (act_of action) scope) w w
for_stops_for given scope values w action bound s body is together why does =
    let acts : Acts = acts_of (map act_of body) in
    let whole : IsBoundAct (for_each s acts) given.schema.now.tables (variables_of scope) = subst (λ (x : Act). IsBoundAct x given.schema.now.tables (variables_of scope)) is bound in
    λ all start t holds own.
    let seen = shown given together w scope values s acts whole all start t holds own in
    let here = selection_bound given together w scope values s acts whole all start t holds own in
    let us = ranging_uses (named_ranging (ranging_of s.inner)) in
    let reads = selection_reads given together w.view t all (sound_view given w all start t holds) (ranging_of s.inner) scope why here.0 (does t scope seen here.0 own) in
    subst (λ (x : Act). KeepsFor {T = Unit {0}} {E = Refusal} start (action_uses x scope) w.view w.view (Err (stop_of_select why))) (sym is)
    (keeps_within start us (action_uses (for_each s acts) scope) (selection_within start (ranging_of s.inner) acts scope) w.view w.view (Err (stop_of_select why))
    (at_start given w all start t holds us w.view w.view (Err (stop_of_select why)) (reading_keeps t us (stop_of_select why) reads)))
