use Rattle.std.proofs.Common.{map, rules, arith, ◌∙◌}
use Rattle.std.proofs.lemmas.Result.{err_from_is_err_and}
use Rattle.rdo_ast.specs.declared.syntax.Action as action
use Rattle.rdo_ast.specs.declared.syntax.Expression as expression
use Rattle.rdo_ast.specs.Views.{act_of, acts_of, ranging_of, shown_of}
use Rattle.rdb_tables.specs.Stages.{stage}
use Rattle.rdb_tables.specs.Undoing.{beginning}
use Rattle.rdb_tables.proofs.Actions.{printing, selecting, not_selecting, body_goes, body_ends, tuples_go, tuples_end}
use Rattle.rdb_tables.proofs.run.+run.Goals as goal

pub run_action-returns-in_ok-push-in-Print-clause-runs : goal.run_action-returns-in_ok-push-in-Print-clause-runs
run_action-returns-in_ok-push-in-Print-clause-runs t c =
    printing c.args.given.now.choices.now (act_of c.args.action.now) (map shown_of c.as_slice.result.now) (beginning c.args.tables.now c.args.work.now.undo) c.args.tables.now
    c.args.scope.now c.args.work.now.lines c.push.new.self c.args.work.now.taken c.in_ok-line-in-Print.line (search (rules, action.the_lemmas)) c.in_ok-line-in-Print.ensures
    c.in_ok-push-in-Print.ensures.ok

pub run_action-returns-in_err-tuples-in-For-clause-runs : goal.run_action-returns-in_err-tuples-in-For-clause-runs
run_action-returns-in_err-tuples-in-For-clause-runs t c =
    let p = err_from_is_err_and c.from_residual-in_err-tuples-in-For.result c.from_residual-in_err-tuples-in-For.ensures.1 in
    rw (p.1, p.2) (not_selecting c.args.given.now.choices.now (act_of c.args.action.now) (ranging_of c.in-For.chosen.inner) c.in-For.chosen.clauses
    (acts_of (map act_of c.in-For.body)) (beginning c.args.tables.now c.args.work.now.undo) c.args.tables.now c.args.scope.now c.args.work.now.lines c.args.work.now.taken
    c.in_err-tuples-in-For.field-0.0 (search (rules, action.the_lemmas)) c.in_err-tuples-in-For.ensures)

pub run_action-returns-in_ok-tuples-in-For-clause-runs : goal.run_action-returns-in_ok-tuples-in-For-clause-runs
run_action-returns-in_ok-tuples-in-For-clause-runs t c =
    selecting c.args.given.now.choices.now (stage c.run_over.new.tables c.run_over.new.work) c.run_over.result (act_of c.args.action.now) (ranging_of c.in-For.chosen.inner)
    c.in-For.chosen.clauses (acts_of (map act_of c.in-For.body)) (acts_of (map act_of c.as_slice-in-For-2.result.now)) (beginning c.args.tables.now c.args.work.now.undo)
    c.args.tables.now c.args.scope.now c.args.work.now.lines c.args.work.now.taken c.as_slice-ranges.result.now c.in_ok-tuples-in-For.tuples c.as_slice-in-For.result.now
    (search (rules, action.the_lemmas)) c.in_ok-tuples-in-For.ensures (search (rules, expression.the_lemmas)) c.as_slice-in-For.ensures (search rules) c.run_over.ensures.runs

pub run_body-returns-in_err-run_action-clause-runs : goal.run_body-returns-in_err-run_action-clause-runs
run_body-returns-in_err-run_action-clause-runs t c =
    let p = err_from_is_err_and c.from_residual.result c.from_residual.ensures.1 in
    rw (p.1, p.2) (body_ends c.args.body.now c.loop-action.action-index c.action-item.result (beginning c.args.tables.now c.args.work.now.undo)
    (beginning c.loop-action.tables c.loop-action.work.undo) c.args.scope.now (omega arith) c.action-item.is c.loop-action.invariant.kept
    (stage c.run_action.new.tables c.run_action.new.work) c.in_err-run_action.field-0.0 c.loop-action.invariant.goes c.in_err-run_action.ensures.runs)

pub run_body-loop-action-preserved : goal.run_body-loop-action-preserved
run_body-loop-action-preserved t c = record {
  goes =
      body_goes c.args.body.now c.loop-action.action-index c.action-item.result (beginning c.args.tables.now c.args.work.now.undo)
      (beginning c.loop-action.tables c.loop-action.work.undo) c.args.scope.now (omega arith) c.action-item.is c.loop-action.invariant.kept
      c.loop-action.invariant.goes c.in_ok-run_action.ensures.runs;
  kept = c.run_action.ensures.kept ∙ c.loop-action.invariant.kept;
}

pub run_over-returns-in_err-run_body-clause-runs : goal.run_over-returns-in_err-run_body-clause-runs
run_over-returns-in_err-run_body-clause-runs t c =
    let p = err_from_is_err_and c.from_residual-in_err-run_body.result c.from_residual-in_err-run_body.ensures.1 in
    rw (p.1, p.2) (tuples_end (acts_of (map act_of c.args.body.now)) (beginning c.args.tables.now c.args.work.now.undo) (beginning c.loop-tuple.tables c.loop-tuple.work.undo)
    c.args.scope.now c.args.ranges.now c.args.tuples.now c.loop-tuple.tuple-index c.tuple-item.result c.as_slice.result.now c.as_slice-in-loop-tuple.result.now
    (omega arith) c.tuple-item.is c.as_slice.ensures (search rules) c.loop-tuple.invariant.kept
    (stage c.run_body.new.tables c.run_body.new.work) c.in_err-run_body.field-0.0 c.loop-tuple.invariant.goes c.in_err-run_body.ensures.runs)

pub run_over-loop-tuple-preserved : goal.run_over-loop-tuple-preserved
run_over-loop-tuple-preserved t c = record {
  goes =
      tuples_go (acts_of (map act_of c.args.body.now)) (beginning c.args.tables.now c.args.work.now.undo) (beginning c.loop-tuple.tables c.loop-tuple.work.undo)
      c.args.scope.now c.args.ranges.now c.args.tuples.now c.loop-tuple.tuple-index c.tuple-item.result c.as_slice.result.now c.as_slice-in-loop-tuple.result.now
      (omega arith) c.tuple-item.is c.as_slice.ensures (search rules) c.loop-tuple.invariant.kept c.loop-tuple.invariant.goes c.in_ok-run_body.ensures.runs;
  kept = c.run_body.ensures.kept ∙ c.loop-tuple.invariant.kept;
}
