use Rattle.std.proofs.Common.{map, rules}
use Rattle.std.proofs.lemmas.Result.{err_from_is_err_and}
use Rattle.rdo_ast.specs.Views.{assignment_of}
use Rattle.rdb_tables.specs.Undoing.{beginning}
use Rattle.rdb_tables.proofs.Storing.{store_hindered, store_goes}
use Rattle.rdb_tables.proofs.store.store.Goals as goal

pub returns-in_err-check_row-clause-runs : goal.returns-in_err-check_row-clause-runs
returns-in_err-check_row-clause-runs c =
    let p = err_from_is_err_and c.from_residual-in_err-check_row.result c.from_residual-in_err-check_row.ensures.1 in
    rw (p.1, p.2) (store_hindered c.args.given.now.choices.now c.args.range.now (map assignment_of c.args.assignments.now) (beginning c.args.tables.now c.args.work.now.undo)
    c.args.tables.now c.args.scope.now c.args.work.now.lines c.args.work.now.taken c.as_slice.result.now c.in_err-check_row.field-0.0 (search rules) c.in_err-check_row.ensures)

pub returns-clause-runs : goal.returns-clause-runs
returns-clause-runs c =
    store_goes c.args.given.now.choices.now c.args.range.now (map assignment_of c.args.assignments.now) (beginning c.args.tables.now c.args.work.now.undo)
    c.args.tables.now c.args.scope.now c.args.work.now.lines c.args.work.now.taken c.in_ok-row.row c.in_ok-key.key c.in_ok-row.ensures (search rules)
    c.push.new.self c.write_row.new.tables c.in_ok-key.ensures.free c.in_ok-key.ensures.chosen c.in_ok-push.ensures.ok c.in_ok-write_row.ensures.ok
