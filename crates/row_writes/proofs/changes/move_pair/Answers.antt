use Rattle.std.proofs.lemmas.Result.{err_from_is_err_and}
use Rattle.std.proofs.Common.{rules, Some}
use Rattle.std.specs.Prelude.{Err}
use Rattle.row_writes.proofs.Steps.{kept, moved, taking_fails, same_key}
use Rattle.row_writes.proofs.RowKept.{pair_keeps, unmoved_keeps, moved_keeps}
use Rattle.row_writes.proofs.changes.move_pair.Goals as goal

pub returns-then-have_one_key-clause-moves : goal.returns-then-have_one_key-clause-moves
returns-then-have_one_key-clause-moves c = kept c.args.view.now c.args.index.now c.args.was.now c.args.row.now c.args.at (same_key c.args.index.now.fields c.args.was.now c.args.row.now (search rules))

pub returns-in_err-take_pair-clause-moves : goal.returns-in_err-take_pair-clause-moves
returns-in_err-take_pair-clause-moves c =
    let p = err_from_is_err_and c.from_residual.result c.from_residual.ensures.1 in
    rw (p.1, p.2) (taking_fails c.args.view.now c.take_pair.new.view c.args.index.now c.args.was.now (Some c.args.row.now) c.args.at c.in_err-take_pair.field-0.0 c.in_err-take_pair.ensures.takes)

pub returns-clause-moves : goal.returns-clause-moves
returns-clause-moves c = moved c.args.view.now c.take_pair.new.view c.add_pair.new.view c.args.index.now c.args.was.now c.args.row.now c.args.at c.add_pair.result c.in_ok-take_pair.ensures.takes c.take_pair.ensures.known c.add_pair.ensures.adds

pub returns-then-have_one_key-clause-nodes : goal.returns-then-have_one_key-clause-nodes
returns-then-have_one_key-clause-nodes c = unmoved_keeps c.args.view.now c.args.index.now (Some c.args.was.now) (Some c.args.row.now) c.args.at

pub returns-in_err-take_pair-clause-nodes : goal.returns-in_err-take_pair-clause-nodes
returns-in_err-take_pair-clause-nodes c =
    let p = err_from_is_err_and c.from_residual.result c.from_residual.ensures.1 in
    rw (p.1, p.2) (pair_keeps c.args.view.now c.take_pair.new.view c.args.index.now (Some c.args.was.now) (Some c.args.row.now) c.args.at (Err c.in_err-take_pair.field-0.0) c.in_err-take_pair.ensures.nodes)

pub returns-clause-nodes : goal.returns-clause-nodes
returns-clause-nodes c = moved_keeps c.args.view.now c.take_pair.new.view c.add_pair.new.view c.args.index.now c.args.was.now c.args.row.now c.args.at c.add_pair.result c.in_ok-take_pair.ensures.takes c.take_pair.ensures.known c.in_ok-take_pair.ensures.nodes c.add_pair.ensures.nodes
