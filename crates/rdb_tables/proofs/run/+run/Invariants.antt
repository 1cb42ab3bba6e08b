use Rattle.std.proofs.Common.{◌≡◌, map, drop}
use Rattle.rdo_ast.specs.Views.{act_of, acts_of}
use Rattle.rdb_meaning.specs.Evaluation.{bind_tuple}
use Rattle.rdb_meaning.specs.Execution.{done_all, over}
use Rattle.rdb_tables.specs.Stages.{Goes, stage}
use Rattle.rdb_tables.specs.Undoing.{beginning}
use Rattle.rdb_tables.proofs.run.+run.Given as goal

abbrev pub invariant-run_body-loop-action : goal.invariant-run_body-loop-action
invariant-run_body-loop-action l = record {
  goes : Goes l.given.choices.now
      (done_all (acts_of (map act_of l.body)) (beginning l.fn.tables l.fn.work.undo) l.scope)
      (done_all (acts_of (map act_of (drop l.action-index l.body))) (beginning l.fn.tables l.fn.work.undo) l.scope)
      (stage l.fn.tables l.fn.work) (stage l.tables l.work);
  kept : beginning l.tables l.work.undo ≡ beginning l.fn.tables l.fn.work.undo;
}

abbrev pub invariant-run_over-loop-tuple : goal.invariant-run_over-loop-tuple
invariant-run_over-loop-tuple l = record {
  goes : Goes l.given.choices.now
      (over l.tuples (λ ks. done_all (acts_of (map act_of l.body)) (beginning l.fn.tables l.fn.work.undo) (bind_tuple l.ranges ks l.scope)))
      (over (drop l.tuple-index l.tuples) (λ ks. done_all (acts_of (map act_of l.body)) (beginning l.fn.tables l.fn.work.undo) (bind_tuple l.ranges ks l.scope)))
      (stage l.fn.tables l.fn.work) (stage l.tables l.work);
  kept : beginning l.tables l.work.undo ≡ beginning l.fn.tables l.fn.work.undo;
}
