use Rattle.std.proofs.Common.{◌≡◌, false, map}
use Rattle.rdb_meaning.specs.declared.tables.Tables.{Tables}
use Rattle.rdb_meaning.specs.Evaluation.{bind_sources}
use Rattle.line_view.specs.Knowledge.{Lines}
use Rattle.statement_view.specs.Areas.{WritesOf}
use Rattle.used_areas.specs.Areas.{areas_changed}
use Rattle.rdo_values.specs.Rows.{row_of}
use Rattle.rdo_bind.specs.Acting.{act_of, acts_of, named_acts}
use Rattle.rdo_select.specs.Crossed.{ranges_of}
use Rattle.rdo_select.specs.Stops.{HaveValues}
use Rattle.rdo_acts.specs.Scopes.{scope_of}
use Rattle.rdo_acts.specs.Ends.{HoldsIn}
use Rattle.rdo_acts.specs.Areas.{body_uses}
use Rattle.rdo_acts.proofs.Writing.{writes_in}
use Rattle.rdo_acts.proofs.Bodies.{BodyGoes, TuplesGo}
use Rattle.rdo_acts.proofs.running.+run.Given as goal

abbrev pub invariant-run_over-loop-found : goal.invariant-run_over-loop-found
invariant-run_over-loop-found l = record {
  goes : (all : Lines) (start t : Tables) → HoldsIn l.given l.fn.work all start t → HaveValues (ranges_of l.ranges) t (scope_of l.scope) l.tuples
      → TuplesGo l.given (named_acts (acts_of (map act_of l.body))) (scope_of l.scope) (ranges_of l.ranges) l.tuples l.found-index l.fn.work l.work all start t;
  areas : (all : Lines) (start t : Tables) → HoldsIn l.given l.fn.work all start t → HaveValues (ranges_of l.ranges) t (scope_of l.scope) l.tuples
      → WritesOf (areas_changed start (body_uses (acts_of (map act_of l.body)) (bind_sources (ranges_of l.ranges) (scope_of l.scope)))) l.fn.work.view l.work.view;
  reads : writes_in l.body ≡ false → l.work.view ≡ l.fn.work.view;
  known : l.work.view.base ≡ l.fn.work.view.base;
}

abbrev pub invariant-run_anew-loop-action : goal.invariant-run_anew-loop-action
invariant-run_anew-loop-action l = record {
  goes : (all : Lines) (start t : Tables) → HoldsIn l.given l.fn.work all start t → BodyGoes l.given (scope_of l.scope) l.body l.action-index l.fn.work l.work all start t;
  areas : (all : Lines) (start t : Tables) → HoldsIn l.given l.fn.work all start t → WritesOf (areas_changed start (body_uses (acts_of (map act_of l.body)) (scope_of l.scope))) l.fn.work.view l.work.view;
  known : l.work.view.base ≡ l.fn.work.view.base;
}

abbrev pub invariant-run_reading-loop-action : goal.invariant-run_reading-loop-action
invariant-run_reading-loop-action l = record {
  goes : (all : Lines) (start t : Tables) → HoldsIn l.given l.fn.work all start t → row_of t (scope_of l.scope) ≡ l.values
      → BodyGoes l.given (scope_of l.scope) l.body l.action-index l.fn.work l.work all start t;
  view : l.work.view ≡ l.fn.work.view;
}
