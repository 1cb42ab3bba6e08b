use Rattle.std.proofs.Common.{map, rules, sym}
use Rattle.std.proofs.lemmas.Result.{err_from_is_err_and}
use Rattle.rdo_ast.specs.Views.{assignment_of}
use Rattle.rdb_meaning.specs.Execution.{assign}
use Rattle.rdb_tables.proofs.Updating.{modify_unassigned, modify_hindered, modify_goes}
use Rattle.rdb_tables.proofs.update.modify.Goals as goal

pub returns-in_err-assign_all-clause-runs : goal.returns-in_err-assign_all-clause-runs
returns-in_err-assign_all-clause-runs c =
    let p = err_from_is_err_and c.from_residual-in_err-assign_all.result c.from_residual-in_err-assign_all.ensures.1 in
    rw (p.1, p.2) (modify_unassigned c.args.given.now.choices.now c.args.variable.now (map assignment_of c.args.assignments.now) c.args.scope.now c.args.tables.now
    c.args.work.now.lines c.args.work.now.taken c.in-Some.binding.now (sym c.in-Some.ensures) c.in-Some-key.key (search rules) c.in-Some-row.before.now (search rules)
    (assign (map assignment_of c.args.assignments.now) c.as_slice-fields.result.now c.args.tables.now c.args.scope.now c.in_ok-row.row) c.assign_all.new.row
    c.in_err-assign_all.field-0.0 (search rules) c.in_err-assign_all.ensures)

pub returns-in_err-check_row-clause-runs : goal.returns-in_err-check_row-clause-runs
returns-in_err-check_row-clause-runs c =
    let p = err_from_is_err_and c.from_residual-in_err-check_row.result c.from_residual-in_err-check_row.ensures.1 in
    rw (p.1, p.2) (modify_hindered c.args.given.now.choices.now c.args.variable.now (map assignment_of c.args.assignments.now) c.args.scope.now c.args.tables.now
    c.args.work.now.lines c.args.work.now.taken c.in-Some.binding.now (sym c.in-Some.ensures) c.in-Some-key.key (search rules) c.in-Some-row.before.now (search rules)
    c.as_slice.result.now (search rules) c.in_err-check_row.field-0.0 c.in_err-check_row.ensures)

pub returns-clause-runs : goal.returns-clause-runs
returns-clause-runs c =
    modify_goes c.args.given.now.choices.now c.args.variable.now (map assignment_of c.args.assignments.now) c.args.scope.now c.args.tables.now
    c.args.work.now.lines c.args.work.now.taken c.in-Some.binding.now (sym c.in-Some.ensures) c.in-Some-key.key (search rules) c.in-Some-row.before.now (search rules)
    c.assign_all.new.row (search rules) c.write_row.new.tables (search rules) c.in_ok-write_row.ensures.ok
