use Rattle.std.proofs.Common.{◌≡◌, ◌++◌, map, length, Ok, Err, refl, sym, ap, subst, ◌∙◌, rules, arith}
use Rattle.std.proofs.lemmas.Result.{err_from_is_err_and}
use Rattle.rdb_meaning.specs.Evaluation.{bind_tuple, bind_sources}
use Rattle.rdb_meaning.specs.Execution.{done}
use Rattle.rdo_values.specs.Rows.{row_of, variables_of}
use Rattle.rdo_bind.specs.declared.action.BoundAction as actions
use Rattle.rdo_bind.specs.Acting.{act_of, acts_of, named_act, named_acts, for_each, print, store, modify, erase}
use Rattle.std.proofs.lemmas.List.{length-map}
use Rattle.rdo_values.specs.declared.bound.BoundRange.{BoundRange}
use Rattle.rdo_select.specs.Crossed.{ranges_of}
use Rattle.rdo_acts.specs.Scopes.{scope_of}
use Rattle.rdo_acts.specs.Ends.{Ends, Runs, ActStop}
use Rattle.rdo_acts.proofs.Writing.{acts_at, reads_at}
use Rattle.rdo_acts.proofs.Viewing.{sound_view}
use Rattle.rdo_acts.proofs.Turns.{holds_now, stops_now}
use Rattle.rdo_acts.proofs.Bodies.{body_job, action_job, body_begins, body_done, action_goes, action_ends, read_anew, read_before, tuples_begin, tuples_done, tuple_goes, tuple_ends, keeps_anew, keeps_before, body_holds, body_keeps}
use Rattle.rdo_acts.specs.Scopes.{may_write}
use Rattle.rdo_acts.proofs.Arms.{ranges_same, is_print, is_store, is_modify, is_erase, is_for, print_runs, store_runs, modify_runs, erase_runs, for_runs, for_ends, arm_keeps, for_keeps, for_stops_for, bound_so}
use Rattle.rdb_meaning.specs.Checks.{acts_uses}
use Rattle.statement_view.specs.Over.{Over}
use Rattle.statement_view.specs.Areas.{IsNeedOf, WritesOf}
use Rattle.used_areas.specs.Areas.{areas_read, areas_changed}
use Rattle.row_writes.proofs.AreaLists.{nothing_written, writes_then}
use Rattle.rdo_bind.proofs.Lists.{variables_behind}
use Rattle.rdo_acts.specs.declared.stop.Refusal.{Refusal}
use Rattle.rdo_acts.specs.Areas.{scope_uses, action_uses, body_uses, KeepsFor, RunsFor}
use Rattle.rdo_acts.proofs.AreasRead.{view_at, reading_keeps, at_start}
use Rattle.rdo_acts.proofs.UsesWithin.{before, act_within, keeps_within}
use Rattle.rdo_acts.proofs.ScopeUses.{body_same}
use Rattle.line_view.specs.Stops.{of_view}
use Rattle.row_writes.specs.Rows.{IsSoundView}
use Rattle.row_writes.proofs.AreaLists.{StopsAt}
use Rattle.rdo_acts.specs.Selections.{chosen_in_act, chosen_in_acts, IsReadAmong, RunsAmong}
use Rattle.rdo_acts.proofs.Lacking.{action_among, tuple_values, form_among, none_writes, for_stops_among, for_runs_among}
use Rattle.std.proofs.Common.{◌⊎◌, inl, inr}
use Rattle.row_writes.proofs.AreaLists.{stops_at}
use Rattle.line_view.specs.declared.need.Need.{Need}
use Rattle.rdo_acts.specs.Wanted.{IsOneOf, ActWants, ActsWant, Then, IsRowOf, RunsWanting}
use Rattle.rdo_acts.proofs.Bodies.{tuple_now, bound_is}
use Rattle.rdo_acts.proofs.Turns.{one_now}
use Rattle.rdo_acts.proofs.Wanting.{then_so, part_wants, form_wants, print_wanting, for_stops_wanting, for_runs_wanting, bound_row, tuple_among}
use Rattle.sorted_index_laws.specs.Nodes.{AnyByRecursion}
use Rattle.rdo_select.specs.declared.crossing.Found.{Found}
use Rattle.rdo_acts.proofs.running.+run.Goals as goal

-- ---- the actions of a body that doesn't write

pub run_reading-loop-action-init : goal.run_reading-loop-action-init
run_reading-loop-action-init t c = record {
  goes = λ all start u holds is. body_begins c.args.given.now (scope_of c.args.scope.now) c.args.body.now c.args.work.now all start u holds;
  view = refl;
}

pub run_reading-run_action-requires : goal.run_reading-run_action-requires
run_reading-run_action-requires t c =
    let bound = acts_at c.args.body.now c.loop-action.action-index c.action-item.result c.args.given.now.schema.now.tables (variables_of (scope_of c.args.scope.now)) c.requires.bound (omega arith) c.action-item.is in
    (search (rules, actions.the_lemmas), (c.requires.together, (c.requires.rows, bound)))

pub run_reading-loop-action-preserved : goal.run_reading-loop-action-preserved
run_reading-loop-action-preserved t c = record {
  goes = λ all start u holds is.
      action_goes c.args.given.now (scope_of c.args.scope.now) c.args.body.now c.loop-action.action-index c.action-item.result (omega arith) c.action-item.is
      c.args.work.now c.loop-action.work c.run_action.new.work (ap (λ o. o.base) c.loop-action.invariant.view) all start u (c.loop-action.invariant.goes all start u holds is)
      (λ x there. read_before (Ok tt) c.args.given.now (scope_of c.args.scope.now) c.args.values.now (λ begun. action_job c.action-item.result begun (scope_of c.args.scope.now))
      c.args.work.now c.loop-action.work c.run_action.new.work c.in_ok-run_action.ensures.runs c.loop-action.invariant.view all start u holds is x there);
  view = c.run_action.ensures.reads (reads_at c.args.body.now c.loop-action.action-index c.action-item.result c.requires.reading (omega arith) c.action-item.is) ∙ c.loop-action.invariant.view;
}

pub run_reading-returns-clause-runs : goal.run_reading-returns-clause-runs
run_reading-returns-clause-runs t c all start u holds is =
    body_done c.args.given.now (scope_of c.args.scope.now) c.args.body.now c.loop-action.action-index c.args.work.now c.loop-action.work all start u (omega arith) (c.loop-action.invariant.goes all start u holds is)

pub run_reading-returns-in_err-run_action-clause-runs : goal.run_reading-returns-in_err-run_action-clause-runs
run_reading-returns-in_err-run_action-clause-runs t c all start u holds is =
    let p = err_from_is_err_and c.from_residual.result c.from_residual.ensures.1 in
    rw (p.1, p.2) (action_ends c.args.given.now (scope_of c.args.scope.now) c.args.body.now c.loop-action.action-index c.action-item.result (omega arith) c.action-item.is
    c.args.work.now c.loop-action.work c.run_action.new.work (ap (λ o. o.base) c.loop-action.invariant.view) all start u (c.loop-action.invariant.goes all start u holds is) c.in_err-run_action.field-0.0
    (λ x there. read_before (Err c.in_err-run_action.field-0.0) c.args.given.now (scope_of c.args.scope.now) c.args.values.now (λ begun. action_job c.action-item.result begun (scope_of c.args.scope.now))
    c.args.work.now c.loop-action.work c.run_action.new.work c.in_err-run_action.ensures.runs c.loop-action.invariant.view all start u holds is x there))

pub run_reading-returns-in_err-run_action-clause-reads : goal.run_reading-returns-in_err-run_action-clause-reads
run_reading-returns-in_err-run_action-clause-reads t c =
    c.run_action.ensures.reads (reads_at c.args.body.now c.loop-action.action-index c.action-item.result c.requires.reading (omega arith) c.action-item.is) ∙ c.loop-action.invariant.view

-- ---- the actions of a body that writes

pub run_anew-loop-action-init : goal.run_anew-loop-action-init
run_anew-loop-action-init t c = record {
  goes = λ all start u holds. body_begins c.args.given.now (scope_of c.args.scope.now) c.args.body.now c.args.work.now all start u holds;
  areas = λ all start u holds. nothing_written (areas_changed start (body_uses (acts_of (map act_of c.args.body.now)) (scope_of c.args.scope.now))) c.args.work.now.view;
  known = refl;
}

pub run_anew-run_action-requires : goal.run_anew-run_action-requires
run_anew-run_action-requires t c =
    let bound = acts_at c.args.body.now c.loop-action.action-index c.action-item.result c.args.given.now.schema.now.tables (variables_of (scope_of c.args.scope.now)) c.requires.bound (omega arith) c.action-item.is in
    (search (rules, actions.the_lemmas), (c.requires.together, (c.requires.rows, bound)))

pub run_anew-loop-action-preserved : goal.run_anew-loop-action-preserved
run_anew-loop-action-preserved t c = record {
  goes = λ all start u holds.
      action_goes c.args.given.now (scope_of c.args.scope.now) c.args.body.now c.loop-action.action-index c.action-item.result (omega arith) c.action-item.is
      c.args.work.now c.loop-action.work c.run_action.new.work c.loop-action.invariant.known all start u (c.loop-action.invariant.goes all start u holds)
      (λ x there. read_anew (Ok tt) c.args.given.now (scope_of c.args.scope.now) c.in-Ok.values (λ begun. action_job c.action-item.result begun (scope_of c.args.scope.now))
      c.loop-action.work c.run_action.new.work c.in_ok-run_action.ensures.runs c.in-Ok.ensures.values all start x there);
  areas = λ all start u holds.
      let given = c.args.given.now in
      let scope = scope_of c.args.scope.now in
      let acts = acts_of (map act_of c.args.body.now) in
      let x = c.action-item.result in
      let mid = c.loop-action.work in
      let new = c.run_action.new.work in
      let now = body_holds given scope c.args.body.now c.loop-action.action-index c.args.work.now mid all start u c.loop-action.invariant.known (c.loop-action.invariant.goes all start u holds) in
      writes_then (areas_changed start (body_uses acts scope)) c.args.work.now.view mid.view new.view (c.loop-action.invariant.areas all start u holds)
      (keeps_within start (action_uses (act_of x) scope) (body_uses acts scope) (act_within start scope c.args.body.now c.loop-action.action-index x (omega arith) c.action-item.is) mid.view new.view (Ok tt)
      (keeps_anew (Ok tt) given scope c.in-Ok.values (action_uses (act_of x) scope) mid new c.in_ok-run_action.ensures.areas c.in-Ok.ensures.values all start now.0 now.1));
  known = c.run_action.ensures.known ∙ c.loop-action.invariant.known;
}

pub run_anew-returns-clause-runs : goal.run_anew-returns-clause-runs
run_anew-returns-clause-runs t c values all start u holds is =
    body_done c.args.given.now (scope_of c.args.scope.now) c.args.body.now c.loop-action.action-index c.args.work.now c.loop-action.work all start u (omega arith) (c.loop-action.invariant.goes all start u holds)

pub run_anew-returns-in_err-run_action-clause-runs : goal.run_anew-returns-in_err-run_action-clause-runs
run_anew-returns-in_err-run_action-clause-runs t c values all start u holds is =
    let p = err_from_is_err_and c.from_residual.result c.from_residual.ensures.1 in
    rw (p.1, p.2) (action_ends c.args.given.now (scope_of c.args.scope.now) c.args.body.now c.loop-action.action-index c.action-item.result (omega arith) c.action-item.is
    c.args.work.now c.loop-action.work c.run_action.new.work c.loop-action.invariant.known all start u (c.loop-action.invariant.goes all start u holds) c.in_err-run_action.field-0.0
    (λ x there. read_anew (Err c.in_err-run_action.field-0.0) c.args.given.now (scope_of c.args.scope.now) c.in-Ok.values (λ begun. action_job c.action-item.result begun (scope_of c.args.scope.now))
    c.loop-action.work c.run_action.new.work c.in_err-run_action.ensures.runs c.in-Ok.ensures.values all start x there))

pub run_anew-returns-in-Err-clause-runs : goal.run_anew-returns-in-Err-clause-runs
run_anew-returns-in-Err-clause-runs t c values all start u holds is =
    let given = c.args.given.now in
    let one = c.loop-action.invariant.goes all start u holds in
    let there = holds_now given c.args.work.now c.loop-action.work c.loop-action.invariant.known all start one.tables one.holds in
    subst (λ e. Ends (Err e) given all start (body_job c.args.body.now start (scope_of c.args.scope.now)) c.args.work.now c.loop-action.work u) (sym c.of_view.ensures)
    (stops_now given c.args.work.now c.loop-action.work c.loop-action.invariant.known all start c.in-Err.stop (body_job c.args.body.now start (scope_of c.args.scope.now))
    (λ values. values ≡ row_of one.tables (scope_of c.args.scope.now)) u (c.in-Err.ensures.values all one.tables (sound_view given c.loop-action.work all start one.tables there)))

-- ---- the body for one tuple

pub run_body-returns-else-writing-clause-runs : goal.run_body-returns-else-writing-clause-runs
run_body-returns-else-writing-clause-runs t c seen same all start u holds is = c.run_reading.ensures.runs all start u holds (is ∙ same c.if-writing.false)

-- ---- the tuples of a FOR

pub run_over-loop-found-init : goal.run_over-loop-found-init
run_over-loop-found-init t c = record {
  goes = λ all start u holds have. tuples_begin c.args.given.now (named_acts (acts_of (map act_of c.args.body.now))) (scope_of c.args.scope.now) (ranges_of c.args.ranges.now) c.args.tuples.now c.args.work.now all start u holds;
  areas = λ all start u holds have. nothing_written (areas_changed start (body_uses (acts_of (map act_of c.args.body.now)) (bind_sources (ranges_of c.args.ranges.now) (scope_of c.args.scope.now)))) c.args.work.now.view;
  reads = λ none. refl;
  known = refl;
}

pub run_over-loop-found-preserved : goal.run_over-loop-found-preserved
run_over-loop-found-preserved t c = record {
  goes = λ all start u holds have.
      tuple_goes c.args.given.now (named_acts (acts_of (map act_of c.args.body.now))) (scope_of c.args.scope.now) c.args.ranges.now c.args.tuples.now c.loop-found.found-index c.found-item.result
      (scope_of c.as_slice-in-loop-found.result.now) (omega arith) c.found-item.is
      (λ long. ap scope_of c.as_slice-in-loop-found.ensures ∙ c.in_ok-bound.ensures.tuple (ap length c.as_slice.ensures ∙ long) ∙ ap (λ ks. bind_tuple (ranges_of c.args.ranges.now) ks (scope_of c.args.scope.now)) c.as_slice.ensures)
      c.args.work.now c.loop-found.work c.run_body.new.work c.loop-found.invariant.known all start u holds have (c.loop-found.invariant.goes all start u holds have)
      c.any_writes-writing.result (λ none. c.loop-found.invariant.reads (sym c.any_writes-writing.ensures ∙ none)) c.in_ok-run_body.ensures.runs;
  areas = λ all start u holds have.
      let acts = acts_of (map act_of c.args.body.now) in
      let scope = scope_of c.args.scope.now in
      let ss = ranges_of c.args.ranges.now in
      let bound = scope_of c.as_slice-in-loop-found.result.now in
      let same : variables_of bound ≡ variables_of (bind_sources ss scope) =
      ap (λ b. variables_of (scope_of b)) c.as_slice-in-loop-found.ensures ∙ c.in_ok-bound.ensures.variables ∙ sym (variables_behind ss scope) in
      writes_then (areas_changed start (body_uses acts (bind_sources ss scope))) c.args.work.now.view c.loop-found.work.view c.run_body.new.work.view (c.loop-found.invariant.areas all start u holds have)
      (subst (λ us. KeepsFor {T = Unit {0}} {E = Refusal} start us c.loop-found.work.view c.run_body.new.work.view (Ok tt)) (body_same acts bound (bind_sources ss scope) same)
      (body_keeps c.args.given.now (named_acts acts) scope c.args.ranges.now c.args.tuples.now c.loop-found.found-index c.found-item.result
      (scope_of c.as_slice-in-loop-found.result.now) (omega arith) c.found-item.is
      (λ long. ap scope_of c.as_slice-in-loop-found.ensures ∙ c.in_ok-bound.ensures.tuple (ap length c.as_slice.ensures ∙ long) ∙ ap (λ ks. bind_tuple (ranges_of c.args.ranges.now) ks (scope_of c.args.scope.now)) c.as_slice.ensures)
      c.args.work.now c.loop-found.work c.run_body.new.work c.loop-found.invariant.known all start u holds have (c.loop-found.invariant.goes all start u holds have)
      c.any_writes-writing.result (λ none. c.loop-found.invariant.reads (sym c.any_writes-writing.ensures ∙ none)) (Ok tt) (body_uses acts bound) c.in_ok-run_body.ensures.areas));
  reads = λ none. c.run_body.ensures.reads (c.any_writes-writing.ensures ∙ none) ∙ c.loop-found.invariant.reads none;
  known = c.run_body.ensures.known ∙ c.loop-found.invariant.known;
}

pub run_over-returns-clause-runs : goal.run_over-returns-clause-runs
run_over-returns-clause-runs t c all start u holds have =
    tuples_done c.args.given.now (named_acts (acts_of (map act_of c.args.body.now))) (scope_of c.args.scope.now) (ranges_of c.args.ranges.now) c.args.tuples.now c.loop-found.found-index
    c.args.work.now c.loop-found.work all start u (omega arith) (c.loop-found.invariant.goes all start u holds have)

pub run_over-returns-in_err-run_body-clause-runs : goal.run_over-returns-in_err-run_body-clause-runs
run_over-returns-in_err-run_body-clause-runs t c all start u holds have =
    let p = err_from_is_err_and c.from_residual-in_err-run_body.result c.from_residual-in_err-run_body.ensures.1 in
    rw (p.1, p.2)
    (tuple_ends c.args.given.now (named_acts (acts_of (map act_of c.args.body.now))) (scope_of c.args.scope.now) c.args.ranges.now c.args.tuples.now c.loop-found.found-index c.found-item.result
    (scope_of c.as_slice-in-loop-found.result.now) (omega arith) c.found-item.is
    (λ long. ap scope_of c.as_slice-in-loop-found.ensures ∙ c.in_ok-bound.ensures.tuple (ap length c.as_slice.ensures ∙ long) ∙ ap (λ ks. bind_tuple (ranges_of c.args.ranges.now) ks (scope_of c.args.scope.now)) c.as_slice.ensures)
    c.args.work.now c.loop-found.work c.run_body.new.work c.loop-found.invariant.known all start u holds have (c.loop-found.invariant.goes all start u holds have)
    c.any_writes-writing.result (λ none. c.loop-found.invariant.reads (sym c.any_writes-writing.ensures ∙ none)) c.in_err-run_body.field-0.0 c.in_err-run_body.ensures.runs)

-- ---- an action

pub run_action-returns-in-Print-clause-runs : goal.run_action-returns-in-Print-clause-runs
run_action-returns-in-Print-clause-runs t c =
    print_runs c.args.given.now (scope_of c.args.scope.now) c.args.action.now c.requires.bound c.args.values.now c.args.work.now c.print.new.work c.print.result
    c.as_slice.result.now (is_print c.args.action.now c.in-Print.items c.as_slice.result.now c.in-Print.is c.as_slice.ensures) c.print.ensures.runs

pub run_action-returns-in-Store-clause-runs : goal.run_action-returns-in-Store-clause-runs
run_action-returns-in-Store-clause-runs t c =
    let assigns = c.as_slice-in-Store.result.now in
    store_runs c.args.given.now (scope_of c.args.scope.now) c.args.action.now c.requires.bound c.args.values.now c.args.work.now c.store.new.work c.store.result
    c.in-Store.range assigns (is_store c.args.action.now c.in-Store.range c.in-Store.assigns assigns c.in-Store.is c.as_slice-in-Store.ensures) c.store.ensures.runs

pub run_action-returns-in-Modify-clause-runs : goal.run_action-returns-in-Modify-clause-runs
run_action-returns-in-Modify-clause-runs t c =
    let assigns = c.as_slice-in-Modify.result.now in
    modify_runs c.args.given.now (scope_of c.args.scope.now) c.args.action.now c.requires.bound c.args.values.now c.args.work.now c.modify.new.work c.modify.result
    c.in-Modify.variable assigns (is_modify c.args.action.now c.in-Modify.variable c.in-Modify.assigns assigns c.in-Modify.is c.as_slice-in-Modify.ensures) c.modify.ensures.runs

pub run_action-returns-in-Erase-clause-runs : goal.run_action-returns-in-Erase-clause-runs
run_action-returns-in-Erase-clause-runs t c =
    erase_runs c.args.given.now (scope_of c.args.scope.now) c.args.action.now c.requires.bound c.args.values.now c.args.work.now c.erase.new.work c.erase.result
    c.in-Erase.variable (is_erase c.args.action.now c.in-Erase.variable c.in-Erase.is) (c.erase.ensures.runs c.args.values.now)

pub run_action-returns-in-Err-clause-runs : goal.run_action-returns-in-Err-clause-runs
run_action-returns-in-Err-clause-runs t c =
    let given = c.args.given.now in
    let scope = scope_of c.args.scope.now in
    subst (λ e. Runs (Err e) given scope c.args.values.now (λ start. done (named_act (act_of c.args.action.now)) start scope) c.args.work.now c.args.work.now) (sym c.of_select.ensures)
    (for_ends given scope c.args.values.now c.args.work.now c.args.action.now c.requires.bound c.in-For.selection c.in-For.body (is_for c.args.action.now c.in-For.selection c.in-For.body c.in-For.body c.in-For.is refl)
    c.requires.together c.in-Err.stop c.in-Err.ensures.tuples c.in-Err.ensures.work c.in-Err.ensures.stop)

pub run_action-returns-in-Ok-clause-runs : goal.run_action-returns-in-Ok-clause-runs
run_action-returns-in-Ok-clause-runs t c =
    let body = c.as_slice-in-For-2.result.now in
    for_runs c.args.given.now (scope_of c.args.scope.now) c.args.action.now c.requires.bound c.args.values.now c.args.work.now c.run_over.new.work c.run_over.result
    c.in-For.selection body (is_for c.args.action.now c.in-For.selection c.in-For.body body c.in-For.is c.as_slice-in-For-2.ensures) c.as_slice-ranges.result.now c.as_slice-ranges.ensures
    c.requires.together c.in-Ok.found c.as_slice-in-For.result.now c.as_slice-in-For.ensures c.in-Ok.ensures.tuples c.in-Ok.ensures.values c.run_over.ensures.runs

-- ---- in which areas

pub run_reading-returns-clause-areas : goal.run_reading-returns-clause-areas
run_reading-returns-clause-areas t c all start u holds is =
    let areas = areas_changed start (body_uses (acts_of (map act_of c.args.body.now)) (scope_of c.args.scope.now)) in
    subst (λ (o : Over). WritesOf areas c.args.work.now.view o) (sym c.loop-action.invariant.view) (nothing_written areas c.args.work.now.view)

pub run_reading-returns-in_err-run_action-clause-areas : goal.run_reading-returns-in_err-run_action-clause-areas
run_reading-returns-in_err-run_action-clause-areas t c all start u holds is =
    let p = err_from_is_err_and c.from_residual.result c.from_residual.ensures.1 in
    let given = c.args.given.now in
    let scope = scope_of c.args.scope.now in
    let acts = acts_of (map act_of c.args.body.now) in
    let x = c.action-item.result in
    let mid = c.loop-action.work in
    let new = c.run_action.new.work in
    let stop = c.in_err-run_action.field-0.0 in
    let now = body_holds given scope c.args.body.now c.loop-action.action-index c.args.work.now mid all start u (ap (λ o. o.base) c.loop-action.invariant.view) (c.loop-action.invariant.goes all start u holds is) in
    rw (p.1, p.2)
    (keeps_within start (action_uses (act_of x) scope) (body_uses acts scope) (act_within start scope c.args.body.now c.loop-action.action-index x (omega arith) c.action-item.is) mid.view new.view (Err stop)
    (keeps_before (Err stop) given scope c.args.values.now (action_uses (act_of x) scope) c.args.work.now mid new c.in_err-run_action.ensures.areas c.loop-action.invariant.view all start u holds is now.0 now.1))

pub run_anew-returns-clause-areas : goal.run_anew-returns-clause-areas
run_anew-returns-clause-areas t c values all start u holds is = c.loop-action.invariant.areas all start u holds

pub run_anew-returns-in_err-run_action-clause-areas : goal.run_anew-returns-in_err-run_action-clause-areas
run_anew-returns-in_err-run_action-clause-areas t c values all start u holds is =
    let p = err_from_is_err_and c.from_residual.result c.from_residual.ensures.1 in
    let given = c.args.given.now in
    let scope = scope_of c.args.scope.now in
    let acts = acts_of (map act_of c.args.body.now) in
    let x = c.action-item.result in
    let mid = c.loop-action.work in
    let new = c.run_action.new.work in
    let stop = c.in_err-run_action.field-0.0 in
    let now = body_holds given scope c.args.body.now c.loop-action.action-index c.args.work.now mid all start u c.loop-action.invariant.known (c.loop-action.invariant.goes all start u holds) in
    rw (p.1, p.2)
    (keeps_within start (action_uses (act_of x) scope) (body_uses acts scope) (act_within start scope c.args.body.now c.loop-action.action-index x (omega arith) c.action-item.is) mid.view new.view (Err stop)
    (keeps_anew (Err stop) given scope c.in-Ok.values (action_uses (act_of x) scope) mid new c.in_err-run_action.ensures.areas c.in-Ok.ensures.values all start now.0 now.1))

pub run_anew-returns-in-Err-clause-areas : goal.run_anew-returns-in-Err-clause-areas
run_anew-returns-in-Err-clause-areas t c values all start u holds is =
    let given = c.args.given.now in
    let scope = scope_of c.args.scope.now in
    let acts = acts_of (map act_of c.args.body.now) in
    let mid = c.loop-action.work in
    let now = body_holds given scope c.args.body.now c.loop-action.action-index c.args.work.now mid all start u c.loop-action.invariant.known (c.loop-action.invariant.goes all start u holds) in
    let us = scope_uses scope in
    let reads = c.in-Err.ensures.areas all now.0 (sound_view given mid all start now.0 now.1) in
    subst (λ (e : ActStop). KeepsFor {T = Unit {0}} {E = Refusal} start (body_uses acts scope) mid.view mid.view (Err e)) (sym c.of_view.ensures)
    (keeps_within start us (body_uses acts scope) (before start us (acts_uses (named_acts acts) scope)) mid.view mid.view (Err (of_view c.in-Err.stop))
    (at_start given mid all start now.0 now.1 us mid.view mid.view (Err (of_view c.in-Err.stop))
    (view_at (IsNeedOf (areas_read now.0 us) (areas_changed now.0 us)) Refusal c.in-Err.stop (reading_keeps now.0 us c.in-Err.stop reads))))

pub run_body-returns-else-writing-clause-areas : goal.run_body-returns-else-writing-clause-areas
run_body-returns-else-writing-clause-areas t c seen same all start u holds is = c.run_reading.ensures.areas all start u holds (is ∙ same c.if-writing.false)

pub run_over-returns-clause-areas : goal.run_over-returns-clause-areas
run_over-returns-clause-areas t c all start u holds have = c.loop-found.invariant.areas all start u holds have

pub run_over-returns-in_err-run_body-clause-areas : goal.run_over-returns-in_err-run_body-clause-areas
run_over-returns-in_err-run_body-clause-areas t c all start u holds have =
    let p = err_from_is_err_and c.from_residual-in_err-run_body.result c.from_residual-in_err-run_body.ensures.1 in
    let acts = acts_of (map act_of c.args.body.now) in
    let scope = scope_of c.args.scope.now in
    let ss = ranges_of c.args.ranges.now in
    let bound = scope_of c.as_slice-in-loop-found.result.now in
    let same : variables_of bound ≡ variables_of (bind_sources ss scope) =
    ap (λ b. variables_of (scope_of b)) c.as_slice-in-loop-found.ensures ∙ c.in_ok-bound.ensures.variables ∙ sym (variables_behind ss scope) in
    rw (p.1, p.2)
    (subst (λ us. KeepsFor {T = Unit {0}} {E = Refusal} start us c.loop-found.work.view c.run_body.new.work.view (Err c.in_err-run_body.field-0.0)) (body_same acts bound (bind_sources ss scope) same)
    (body_keeps c.args.given.now (named_acts acts) scope c.args.ranges.now c.args.tuples.now c.loop-found.found-index c.found-item.result
    (scope_of c.as_slice-in-loop-found.result.now) (omega arith) c.found-item.is
    (λ long. ap scope_of c.as_slice-in-loop-found.ensures ∙ c.in_ok-bound.ensures.tuple (ap length c.as_slice.ensures ∙ long) ∙ ap (λ ks. bind_tuple (ranges_of c.args.ranges.now) ks (scope_of c.args.scope.now)) c.as_slice.ensures)
    c.args.work.now c.loop-found.work c.run_body.new.work c.loop-found.invariant.known all start u holds have (c.loop-found.invariant.goes all start u holds have)
    c.any_writes-writing.result (λ none. c.loop-found.invariant.reads (sym c.any_writes-writing.ensures ∙ none)) (Err c.in_err-run_body.field-0.0) (body_uses acts bound) c.in_err-run_body.ensures.areas))

pub run_action-returns-in-Print-clause-areas : goal.run_action-returns-in-Print-clause-areas
run_action-returns-in-Print-clause-areas t c =
    let items = c.as_slice.result.now in
    let scope = scope_of c.args.scope.now in
    let e = is_print c.args.action.now c.in-Print.items items c.in-Print.is c.as_slice.ensures in
    arm_keeps c.args.given.now scope c.args.action.now c.args.values.now c.args.work.now c.print.new.work c.print.result (print items) e
    (c.print.ensures.areas scope (bound_so c.args.given.now scope c.args.action.now c.requires.bound (print items) e))

pub run_action-returns-in-Store-clause-areas : goal.run_action-returns-in-Store-clause-areas
run_action-returns-in-Store-clause-areas t c =
    let assigns = c.as_slice-in-Store.result.now in
    let scope = scope_of c.args.scope.now in
    let e = is_store c.args.action.now c.in-Store.range c.in-Store.assigns assigns c.in-Store.is c.as_slice-in-Store.ensures in
    arm_keeps c.args.given.now scope c.args.action.now c.args.values.now c.args.work.now c.store.new.work c.store.result (store c.in-Store.range assigns) e
    (c.store.ensures.areas scope (bound_so c.args.given.now scope c.args.action.now c.requires.bound (store c.in-Store.range assigns) e))

pub run_action-returns-in-Modify-clause-areas : goal.run_action-returns-in-Modify-clause-areas
run_action-returns-in-Modify-clause-areas t c =
    let assigns = c.as_slice-in-Modify.result.now in
    arm_keeps c.args.given.now (scope_of c.args.scope.now) c.args.action.now c.args.values.now c.args.work.now c.modify.new.work c.modify.result
    (modify c.in-Modify.variable assigns) (is_modify c.args.action.now c.in-Modify.variable c.in-Modify.assigns assigns c.in-Modify.is c.as_slice-in-Modify.ensures) c.modify.ensures.areas

pub run_action-returns-in-Erase-clause-areas : goal.run_action-returns-in-Erase-clause-areas
run_action-returns-in-Erase-clause-areas t c =
    arm_keeps c.args.given.now (scope_of c.args.scope.now) c.args.action.now c.args.values.now c.args.work.now c.erase.new.work c.erase.result
    (erase c.in-Erase.variable) (is_erase c.args.action.now c.in-Erase.variable c.in-Erase.is) (c.erase.ensures.areas c.args.values.now)

pub run_action-returns-in-Err-clause-areas : goal.run_action-returns-in-Err-clause-areas
run_action-returns-in-Err-clause-areas t c =
    let given = c.args.given.now in
    let scope = scope_of c.args.scope.now in
    subst (λ (e : ActStop). RunsFor (Err e) given scope c.args.values.now (action_uses (act_of c.args.action.now) scope) c.args.work.now c.args.work.now) (sym c.of_select.ensures)
    (for_stops_for given scope c.args.values.now c.args.work.now c.args.action.now c.requires.bound c.in-For.selection c.in-For.body (is_for c.args.action.now c.in-For.selection c.in-For.body c.in-For.body c.in-For.is refl)
    c.requires.together c.in-Err.stop c.in-Err.ensures.work)

pub run_action-returns-in-Ok-clause-areas : goal.run_action-returns-in-Ok-clause-areas
run_action-returns-in-Ok-clause-areas t c =
    let body = c.as_slice-in-For-2.result.now in
    for_keeps c.args.given.now (scope_of c.args.scope.now) c.args.action.now c.requires.bound c.args.values.now c.args.work.now c.run_over.new.work c.run_over.result
    c.in-For.selection body (is_for c.args.action.now c.in-For.selection c.in-For.body body c.in-For.is c.as_slice-in-For-2.ensures) c.as_slice-ranges.result.now c.as_slice-ranges.ensures
    c.requires.together c.in-Ok.found c.as_slice-in-For.result.now c.as_slice-in-For.ensures c.in-Ok.ensures.values c.run_over.ensures.areas

-- ---- what is lacked where nothing is written

pub run_reading-returns-in_err-run_action-clause-lacks : goal.run_reading-returns-in_err-run_action-clause-lacks
run_reading-returns-in_err-run_action-clause-lacks t c first u sound is =
    let p = err_from_is_err_and c.from_residual.result c.from_residual.ensures.1 in
    let given = c.args.given.now in
    let scope = scope_of c.args.scope.now in
    let i = c.loop-action.action-index in
    let x = c.action-item.result in
    let here = subst (λ (o : Over). IsSoundView o given.schema.now u first) (sym c.loop-action.invariant.view) sound in
    rw (p.1, p.2)
    (action_among u given.sources.now.entries c.in_err-run_action.field-0.0 (variables_of scope) c.args.body.now i x (omega arith) c.action-item.is
    (c.in_err-run_action.ensures.lacks (reads_at c.args.body.now i x c.requires.reading (omega arith) c.action-item.is) first u here is))

pub run_body-returns-else-writing-clause-lacks : goal.run_body-returns-else-writing-clause-lacks
run_body-returns-else-writing-clause-lacks t c none = c.run_reading.ensures.lacks

pub run_over-returns-in_err-run_body-clause-lacks : goal.run_over-returns-in_err-run_body-clause-lacks
run_over-returns-in_err-run_body-clause-lacks t c none first u sound have =
    let p = err_from_is_err_and c.from_residual-in_err-run_body.result c.from_residual-in_err-run_body.ensures.1 in
    let given = c.args.given.now in
    let scope = scope_of c.args.scope.now in
    let acts = acts_of (map act_of c.args.body.now) in
    let ss = ranges_of c.args.ranges.now in
    let bound = scope_of c.as_slice-in-loop-found.result.now in
    let stop = c.in_err-run_body.field-0.0 in
    let here = subst (λ (o : Over). IsSoundView o given.schema.now u first) (sym (c.loop-found.invariant.reads none)) sound in
    let own = tuple_values u scope c.args.ranges.now ss c.args.tuples.now c.loop-found.found-index c.found-item.result bound (omega arith) c.found-item.is (sym (length-map c.args.ranges.now (λ (s : BoundRange). s.range)))
    (λ long. ap scope_of c.as_slice-in-loop-found.ensures ∙ c.in_ok-bound.ensures.tuple (ap length c.as_slice.ensures ∙ long) ∙ ap (λ ks. bind_tuple ss ks scope) c.as_slice.ensures) have in
    rw (p.1, p.2)
    (subst (λ vs. StopsAt (IsReadAmong u given.sources.now.entries (chosen_in_acts acts vs)) stop) (ap (λ b. variables_of (scope_of b)) c.as_slice-in-loop-found.ensures ∙ c.in_ok-bound.ensures.variables)
    (c.in_err-run_body.ensures.lacks (c.any_writes-writing.ensures ∙ none) first u here own))

pub run_action-returns-in-Print-clause-lacks : goal.run_action-returns-in-Print-clause-lacks
run_action-returns-in-Print-clause-lacks t c none =
    let given = c.args.given.now in
    let scope = scope_of c.args.scope.now in
    let items = c.as_slice.result.now in
    let e = is_print c.args.action.now c.in-Print.items items c.in-Print.is c.as_slice.ensures in
    form_among c.print.result given scope c.args.values.now c.args.action.now (print items) c.args.work.now e (c.print.ensures.lacks scope (bound_so given scope c.args.action.now c.requires.bound (print items) e))

pub run_action-returns-in-Store-clause-lacks : goal.run_action-returns-in-Store-clause-lacks
run_action-returns-in-Store-clause-lacks t c none =
    let assigns = c.as_slice-in-Store.result.now in
    absurd (none_writes c.args.action.now (store c.in-Store.range assigns) (is_store c.args.action.now c.in-Store.range c.in-Store.assigns assigns c.in-Store.is c.as_slice-in-Store.ensures) refl none)

pub run_action-returns-in-Modify-clause-lacks : goal.run_action-returns-in-Modify-clause-lacks
run_action-returns-in-Modify-clause-lacks t c none =
    let assigns = c.as_slice-in-Modify.result.now in
    absurd (none_writes c.args.action.now (modify c.in-Modify.variable assigns) (is_modify c.args.action.now c.in-Modify.variable c.in-Modify.assigns assigns c.in-Modify.is c.as_slice-in-Modify.ensures) refl none)

pub run_action-returns-in-Erase-clause-lacks : goal.run_action-returns-in-Erase-clause-lacks
run_action-returns-in-Erase-clause-lacks t c none = absurd (none_writes c.args.action.now (erase c.in-Erase.variable) (is_erase c.args.action.now c.in-Erase.variable c.in-Erase.is) refl none)

pub run_action-returns-in-Err-clause-lacks : goal.run_action-returns-in-Err-clause-lacks
run_action-returns-in-Err-clause-lacks t c none =
    let given = c.args.given.now in
    let scope = scope_of c.args.scope.now in
    let action = c.args.action.now in
    let s = c.in-For.selection in
    let body = acts_of (map act_of c.in-For.body) in
    let e = is_for action s c.in-For.body c.in-For.body c.in-For.is refl in
    form_among (Err c.of_select.result) given scope c.args.values.now action (for_each s body) c.args.work.now e
    (subst (λ (w : ActStop). RunsAmong (Err w) given scope c.args.values.now (chosen_in_act (for_each s body) (variables_of scope)) c.args.work.now) (sym c.of_select.ensures)
    (for_stops_among given c.requires.together scope c.args.values.now c.args.work.now s body (bound_so given scope action c.requires.bound (for_each s body) e) c.in-Err.stop c.in-Err.ensures.work))

pub run_action-returns-in-Ok-clause-lacks : goal.run_action-returns-in-Ok-clause-lacks
run_action-returns-in-Ok-clause-lacks t c none =
    let given = c.args.given.now in
    let scope = scope_of c.args.scope.now in
    let action = c.args.action.now in
    let s = c.in-For.selection in
    let slice = c.as_slice-in-For-2.result.now in
    let body = acts_of (map act_of slice) in
    let ranges = c.as_slice-ranges.result.now in
    let e = is_for action s c.in-For.body slice c.in-For.is c.as_slice-in-For-2.ensures in
    form_among c.run_over.result given scope c.args.values.now action (for_each s body) c.args.work.now e
    (for_runs_among given c.requires.together scope c.args.values.now c.args.work.now s body (bound_so given scope action c.requires.bound (for_each s body) e) c.run_over.result (ranges_of ranges) c.in-Ok.found c.as_slice-in-For.result.now
    (ranges_same given scope action c.requires.bound s slice e ranges c.as_slice-ranges.ensures) c.as_slice-in-For.ensures c.in-Ok.ensures.values
    (c.run_over.ensures.lacks (ap may_write (sym e) ∙ none)))

-- ---- what is lacked, part by part

pub run_reading-returns-in_err-run_action-clause-wants : goal.run_reading-returns-in_err-run_action-clause-wants
run_reading-returns-in_err-run_action-clause-wants t c all start u holds is =
    let p = err_from_is_err_and c.from_residual.result c.from_residual.ensures.1 in
    let given = c.args.given.now in
    let scope = scope_of c.args.scope.now in
    let body = c.args.body.now in
    let i = c.loop-action.action-index in
    let x = c.action-item.result in
    let mid = c.loop-action.work in
    let sources = given.sources.now.entries in
    let vs = variables_of scope in
    let now = body_holds given scope body i c.args.work.now mid all start u (ap (λ o. o.base) c.loop-action.invariant.view) (c.loop-action.invariant.goes all start u holds is) in
    let own = ap (λ tables. row_of tables scope) (one_now given c.args.work.now mid all start u now.0 c.loop-action.invariant.view holds now.1) ∙ is in
    rw (p.1, p.2)
    (stops_at (λ need. IsRowOf scope need ⊎ Then given all start (λ v. ActWants v sources (act_of x) vs need)) (λ need. IsRowOf scope need ⊎ Then given all start (λ v. ActsWant v sources (acts_of (map act_of body)) vs need))
    (λ need wanted. elim wanted as (λ w. IsRowOf scope need ⊎ Then given all start (λ v. ActsWant v sources (acts_of (map act_of body)) vs need)) [
      | inl row ↦ inl row
      | inr part ↦ inr (then_so given all start (λ v. ActWants v sources (act_of x) vs need) (λ v. ActsWant v sources (acts_of (map act_of body)) vs need) (λ v. part_wants v sources vs need body i x (omega arith) c.action-item.is) part)
    ])
    c.in_err-run_action.field-0.0 (c.in_err-run_action.ensures.wants all start now.0 now.1 own))

pub run_anew-returns-in_err-run_action-clause-wants : goal.run_anew-returns-in_err-run_action-clause-wants
run_anew-returns-in_err-run_action-clause-wants t c values all start u holds is =
    let p = err_from_is_err_and c.from_residual.result c.from_residual.ensures.1 in
    let given = c.args.given.now in
    let scope = scope_of c.args.scope.now in
    let body = c.args.body.now in
    let i = c.loop-action.action-index in
    let x = c.action-item.result in
    let mid = c.loop-action.work in
    let sources = given.sources.now.entries in
    let vs = variables_of scope in
    let now = body_holds given scope body i c.args.work.now mid all start u c.loop-action.invariant.known (c.loop-action.invariant.goes all start u holds) in
    rw (p.1, p.2)
    (stops_at (λ need. IsRowOf scope need ⊎ Then given all start (λ v. ActWants v sources (act_of x) vs need)) (λ need. IsRowOf scope need ⊎ Then given all start (λ v. ActsWant v sources (acts_of (map act_of body)) vs need))
    (λ need wanted. elim wanted as (λ w. IsRowOf scope need ⊎ Then given all start (λ v. ActsWant v sources (acts_of (map act_of body)) vs need)) [
      | inl row ↦ inl row
      | inr part ↦ inr (then_so given all start (λ v. ActWants v sources (act_of x) vs need) (λ v. ActsWant v sources (acts_of (map act_of body)) vs need) (λ v. part_wants v sources vs need body i x (omega arith) c.action-item.is) part)
    ])
    c.in_err-run_action.field-0.0 (c.in_err-run_action.ensures.wants all start now.0 now.1 (sym (c.in-Ok.ensures.values all now.0 (sound_view given mid all start now.0 now.1)))))

pub run_anew-returns-in-Err-clause-wants : goal.run_anew-returns-in-Err-clause-wants
run_anew-returns-in-Err-clause-wants t c values all start u holds is =
    let given = c.args.given.now in
    let scope = scope_of c.args.scope.now in
    let Wanted : Need → Type 0 = λ need. IsRowOf scope need ⊎ Then given all start (λ v. ActsWant v given.sources.now.entries (acts_of (map act_of c.args.body.now)) (variables_of scope) need) in
    subst (StopsAt Wanted) (sym c.of_view.ensures) (stops_at (IsRowOf scope) Wanted (λ need row. inl row) (of_view c.in-Err.stop) (view_at (IsRowOf scope) Refusal c.in-Err.stop c.in-Err.ensures.lines))

pub run_body-returns-else-writing-clause-wants : goal.run_body-returns-else-writing-clause-wants
run_body-returns-else-writing-clause-wants t c seen same all start u holds is = c.run_reading.ensures.wants all start u holds (is ∙ same c.if-writing.false)

pub run_over-returns-in_err-run_body-clause-wants : goal.run_over-returns-in_err-run_body-clause-wants
run_over-returns-in_err-run_body-clause-wants t c all start u holds have =
    let p = err_from_is_err_and c.from_residual-in_err-run_body.result c.from_residual-in_err-run_body.ensures.1 in
    let given = c.args.given.now in
    let scope = scope_of c.args.scope.now in
    let acts = acts_of (map act_of c.args.body.now) in
    let ss = ranges_of c.args.ranges.now in
    let tuples = c.args.tuples.now in
    let i = c.loop-found.found-index in
    let x = c.found-item.result in
    let bound = scope_of c.as_slice-in-loop-found.result.now in
    let sources = given.sources.now.entries in
    let binds : length x.tuple ≡ length c.args.ranges.now → bound ≡ bind_tuple ss x.tuple scope = λ long. ap scope_of c.as_slice-in-loop-found.ensures ∙ c.in_ok-bound.ensures.tuple (ap length c.as_slice.ensures ∙ long) ∙ ap (λ ks. bind_tuple ss ks scope) c.as_slice.ensures in
    let now = tuple_now given (named_acts acts) scope c.args.ranges.now tuples i x bound (omega arith) c.found-item.is binds
    c.args.work.now c.loop-found.work c.run_body.new.work c.loop-found.invariant.known all start u holds have (c.loop-found.invariant.goes all start u holds have)
    c.any_writes-writing.result (λ none. c.loop-found.invariant.reads (sym c.any_writes-writing.ensures ∙ none)) in
    let around = bound_is given (named_acts acts) scope c.args.ranges.now tuples i x bound (omega arith) c.found-item.is binds
    c.args.work.now c.loop-found.work c.run_body.new.work c.loop-found.invariant.known all start u holds have (c.loop-found.invariant.goes all start u holds have) in
    let variables = ap (λ b. variables_of (scope_of b)) c.as_slice-in-loop-found.ensures ∙ c.in_ok-bound.ensures.variables in
    rw (p.1, p.2)
    (stops_at (λ need. IsRowOf bound need ⊎ Then given all start (λ v. ActsWant v sources acts (variables_of bound) need))
    (λ need. IsRowOf scope need ⊎ (AnyByRecursion (λ (f : Found). IsOneOf f.tuple need) tuples ⊎ Then given all start (λ v. ActsWant v sources acts (variables_of scope ++ ss) need)))
    (λ need wanted. elim wanted as (λ w. IsRowOf scope need ⊎ (AnyByRecursion (λ (f : Found). IsOneOf f.tuple need) tuples ⊎ Then given all start (λ v. ActsWant v sources acts (variables_of scope ++ ss) need))) [
      | inl row ↦ elim (bound_row need scope ss x.tuple (subst (λ s. IsRowOf s need) around row)) as (λ w. IsRowOf scope need ⊎ (AnyByRecursion (λ (f : Found). IsOneOf f.tuple need) tuples ⊎ Then given all start (λ v. ActsWant v sources acts (variables_of scope ++ ss) need))) [
        | inl outside ↦ inl outside
        | inr own ↦ inr (inl (tuple_among need tuples i x (omega arith) c.found-item.is own))
      ]
      | inr part ↦ inr (inr (then_so given all start (λ v. ActsWant v sources acts (variables_of bound) need) (λ v. ActsWant v sources acts (variables_of scope ++ ss) need) (λ v h. subst (λ vs. ActsWant v sources acts vs need) variables h) part))
    ])
    c.in_err-run_body.field-0.0 (c.in_err-run_body.ensures.wants (row_of now.0 bound) now.2 all start now.0 now.1 refl))

pub run_action-returns-in-Print-clause-wants : goal.run_action-returns-in-Print-clause-wants
run_action-returns-in-Print-clause-wants t c all start u holds is =
    let given = c.args.given.now in
    let scope = scope_of c.args.scope.now in
    let items = c.as_slice.result.now in
    let e = is_print c.args.action.now c.in-Print.items items c.in-Print.is c.as_slice.ensures in
    print_wanting c.print.result given scope c.args.values.now c.args.action.now items c.args.work.now e (c.print.ensures.lacks scope (bound_so given scope c.args.action.now c.requires.bound (print items) e)) all start u holds is

pub run_action-returns-in-Store-clause-wants : goal.run_action-returns-in-Store-clause-wants
run_action-returns-in-Store-clause-wants t c =
    let given = c.args.given.now in
    let scope = scope_of c.args.scope.now in
    let assigns = c.as_slice-in-Store.result.now in
    let a = store c.in-Store.range assigns in
    let e = is_store c.args.action.now c.in-Store.range c.in-Store.assigns assigns c.in-Store.is c.as_slice-in-Store.ensures in
    form_wants c.store.result given scope c.args.values.now c.args.action.now a c.args.work.now e (c.store.ensures.wants scope (bound_so given scope c.args.action.now c.requires.bound a e))

pub run_action-returns-in-Modify-clause-wants : goal.run_action-returns-in-Modify-clause-wants
run_action-returns-in-Modify-clause-wants t c =
    let assigns = c.as_slice-in-Modify.result.now in
    form_wants c.modify.result c.args.given.now (scope_of c.args.scope.now) c.args.values.now c.args.action.now (modify c.in-Modify.variable assigns) c.args.work.now
    (is_modify c.args.action.now c.in-Modify.variable c.in-Modify.assigns assigns c.in-Modify.is c.as_slice-in-Modify.ensures) c.modify.ensures.wants

pub run_action-returns-in-Erase-clause-wants : goal.run_action-returns-in-Erase-clause-wants
run_action-returns-in-Erase-clause-wants t c =
    form_wants c.erase.result c.args.given.now (scope_of c.args.scope.now) c.args.values.now c.args.action.now (erase c.in-Erase.variable) c.args.work.now
    (is_erase c.args.action.now c.in-Erase.variable c.in-Erase.is) (c.erase.ensures.wants c.args.values.now)

pub run_action-returns-in-Err-clause-wants : goal.run_action-returns-in-Err-clause-wants
run_action-returns-in-Err-clause-wants t c =
    let given = c.args.given.now in
    let scope = scope_of c.args.scope.now in
    let action = c.args.action.now in
    let s = c.in-For.selection in
    let body = acts_of (map act_of c.in-For.body) in
    let e = is_for action s c.in-For.body c.in-For.body c.in-For.is refl in
    form_wants (Err c.of_select.result) given scope c.args.values.now action (for_each s body) c.args.work.now e
    (subst (λ (w : ActStop). RunsWanting (Err w) given scope c.args.values.now (for_each s body) c.args.work.now) (sym c.of_select.ensures)
    (for_stops_wanting given c.requires.together scope c.args.values.now c.args.work.now s body (bound_so given scope action c.requires.bound (for_each s body) e) c.in-Err.stop c.in-Err.ensures.work))

pub run_action-returns-in-Ok-clause-wants : goal.run_action-returns-in-Ok-clause-wants
run_action-returns-in-Ok-clause-wants t c =
    let given = c.args.given.now in
    let scope = scope_of c.args.scope.now in
    let action = c.args.action.now in
    let s = c.in-For.selection in
    let slice = c.as_slice-in-For-2.result.now in
    let body = acts_of (map act_of slice) in
    let ranges = c.as_slice-ranges.result.now in
    let e = is_for action s c.in-For.body slice c.in-For.is c.as_slice-in-For-2.ensures in
    form_wants c.run_over.result given scope c.args.values.now action (for_each s body) c.args.work.now e
    (for_runs_wanting given c.requires.together scope c.args.values.now c.args.work.now s body (bound_so given scope action c.requires.bound (for_each s body) e) c.run_over.result (ranges_of ranges) c.in-Ok.found c.as_slice-in-For.result.now
    (ranges_same given scope action c.requires.bound s slice e ranges c.as_slice-ranges.ensures) c.as_slice-in-For.ensures c.in-Ok.ensures.tuples c.in-Ok.ensures.values c.run_over.ensures.wants)
