use Rattle.std.proofs.Common.{arith}
use Rattle.std.proofs.lemmas.Result.{err_from_is_err_and}
use Rattle.rdb_tables.proofs.Assigning.{assign_ends}
use Rattle.rdb_tables.proofs.assign.assign_all.Goals as goal

pub returns-in_err-assign_one : goal.returns-in_err-assign_one
returns-in_err-assign_one c =
    let p = err_from_is_err_and c.from_residual.result c.from_residual.ensures.1 in
    rw (p.1, p.2) (assign_ends c.args.assignments.now c.loop-assignment.assignment-index c.assignment-item.result c.args.fields.now c.args.tables.now c.args.scope.now
    c.loop-assignment.row (omega arith) c.assignment-item.is c.in_err-assign_one.field-0.0 _ c.assign_one.new.row c.loop-assignment.invariant c.in_err-assign_one.ensures)
