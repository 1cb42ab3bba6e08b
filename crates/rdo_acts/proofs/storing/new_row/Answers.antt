use Rattle.std.proofs.Common.{Ok, Err}
use Rattle.std.proofs.lemmas.Result.{err_from_is_err_and}
use Rattle.rdb_meaning.specs.Contents.{Row}
use Rattle.rdo_acts.proofs.RowMade.{new_row_made, new_row_reads}
use Rattle.rdo_acts.proofs.Wanting.{new_row_lacks}
use Rattle.rdo_acts.proofs.storing.new_row.Goals as goal

pub returns-in_err-all-clause-row : goal.returns-in_err-all-clause-row
returns-in_err-all-clause-row c = λ first t scope s table sound named same are own.
    let p = err_from_is_err_and c.from_residual.result c.from_residual.ensures.1 in
    rw (p.1, p.2) tt

pub returns-in_err-row-clause-row : goal.returns-in_err-row-clause-row
returns-in_err-row-clause-row c = λ first t scope s table sound named same are own.
    let p = err_from_is_err_and c.from_residual-in_err-row.result c.from_residual-in_err-row.ensures.1 in
    rw (p.1, p.2) tt

pub returns-in_err-assign_all-clause-row : goal.returns-in_err-assign_all-clause-row
returns-in_err-assign_all-clause-row c =
    let p = err_from_is_err_and c.from_residual-in_err-assign_all.result c.from_residual-in_err-assign_all.ensures.1 in
    rw (p.1, p.2)
    (new_row_made c.args.given.now.schema.now c.args.view.now c.args.fields.now c.args.assigns.now {T = Unit {0}} c.args.values.now c.in_ok-all.all c.in_ok-row.row (Err c.in_err-assign_all.field-0.0) (λ done. c.assign_all.new.row)
    c.in_ok-all.ensures c.in_ok-row.ensures c.in_err-assign_all.ensures.assigns)

pub returns-clause-row : goal.returns-clause-row
returns-clause-row c =
    new_row_made c.args.given.now.schema.now c.args.view.now c.args.fields.now c.args.assigns.now {T = Unit {0}} c.args.values.now c.in_ok-all.all c.in_ok-row.row (Ok tt) (λ done. c.assign_all.new.row)
    c.in_ok-all.ensures c.in_ok-row.ensures c.in_ok-assign_all.ensures.assigns

pub returns-in_err-all-clause-areas : goal.returns-in_err-all-clause-areas
returns-in_err-all-clause-areas c = λ first t scope s table sound named same are own.
    let p = err_from_is_err_and c.from_residual.result c.from_residual.ensures.1 in
    rw (p.1, p.2) tt

pub returns-in_err-row-clause-areas : goal.returns-in_err-row-clause-areas
returns-in_err-row-clause-areas c = λ first t scope s table sound named same are own.
    let p = err_from_is_err_and c.from_residual-in_err-row.result c.from_residual-in_err-row.ensures.1 in
    rw (p.1, p.2) tt

pub returns-in_err-assign_all-clause-areas : goal.returns-in_err-assign_all-clause-areas
returns-in_err-assign_all-clause-areas c =
    let p = err_from_is_err_and c.from_residual-in_err-assign_all.result c.from_residual-in_err-assign_all.ensures.1 in
    rw (p.1, p.2)
    (new_row_reads c.args.given.now.schema.now c.args.view.now c.args.fields.now c.args.assigns.now (Unit {0}) Row c.args.values.now c.in_ok-all.all c.in_err-assign_all.field-0.0 c.in_ok-all.ensures c.in_err-assign_all.ensures.areas)

pub returns-in_err-all-clause-lacks : goal.returns-in_err-all-clause-lacks
returns-in_err-all-clause-lacks c = λ first t scope s table sound named same are own.
    let p = err_from_is_err_and c.from_residual.result c.from_residual.ensures.1 in
    rw (p.1, p.2) tt

pub returns-in_err-row-clause-lacks : goal.returns-in_err-row-clause-lacks
returns-in_err-row-clause-lacks c = λ first t scope s table sound named same are own.
    let p = err_from_is_err_and c.from_residual-in_err-row.result c.from_residual-in_err-row.ensures.1 in
    rw (p.1, p.2) tt

pub returns-in_err-assign_all-clause-lacks : goal.returns-in_err-assign_all-clause-lacks
returns-in_err-assign_all-clause-lacks c =
    let p = err_from_is_err_and c.from_residual-in_err-assign_all.result c.from_residual-in_err-assign_all.ensures.1 in
    rw (p.1, p.2)
    (new_row_lacks c.args.given.now.schema.now c.args.view.now c.args.given.now.sources.now.entries c.args.fields.now c.args.assigns.now (Unit {0}) Row c.args.values.now c.in_ok-all.all c.in_err-assign_all.field-0.0 c.in_ok-all.ensures c.in_err-assign_all.ensures.lacks)
