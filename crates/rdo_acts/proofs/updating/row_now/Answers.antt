use Rattle.std.proofs.lemmas.Result.{err_from_is_err_and}
use Rattle.rdb_meaning.specs.Contents.{relation_named}
use Rattle.rdo_acts.proofs.Viewing.{range_there}
use Rattle.rdo_acts.proofs.RowUpdated.{row_found, row_unread}
use Rattle.std.proofs.Common.{ℕ, [], ◌∷◌, sym, subst}
use Rattle.statement_view.specs.Over.{laid_over}
use Rattle.statement_view.specs.Areas.{IsNeedOf}
use Rattle.row_writes.proofs.AreaLists.{StopsAt}
use Rattle.rdo_acts.proofs.Wanting.{row_lacked}
use Rattle.rdo_acts.proofs.updating.row_now.Goals as goal

pub unreachable-requires : goal.unreachable-requires
unreachable-requires c =
    let there = range_there c.args.variable.range.now (relation_named c.args.variable.range.now.range.relation c.args.given.now.schema.now.tables) c.requires.0 in
    c.in_default.ensures.stored there.0 there.1

pub returns-in_err-row-clause-row : goal.returns-in_err-row-clause-row
returns-in_err-row-clause-row c =
    let p = err_from_is_err_and c.from_residual.result c.from_residual.ensures.1 in
    rw (p.1, p.2) (row_unread c.args.given.now c.args.work.now.view c.args.variable c.in-Some.target c.in-Some.ensures.target c.in_err-row.field-0.0 c.in_err-row.ensures.row)

pub returns-clause-row : goal.returns-clause-row
returns-clause-row c = row_found c.args.given.now c.args.work.now.view c.args.variable c.in-Some.target c.in-Some.ensures.target c.in_ok-row.row c.in_ok-row.ensures.row

pub returns-in_err-row-clause-areas : goal.returns-in_err-row-clause-areas
returns-in_err-row-clause-areas c = λ first t table sound named.
    let p = err_from_is_err_and c.from_residual.result c.from_residual.ensures.1 in
    let is = c.in-Some.ensures.target (laid_over c.args.work.now.view.lines first) t table sound.sound named in
    rw (p.1, p.2) (subst (λ (a : ℕ). StopsAt (IsNeedOf (a ∷ []) []) c.in_err-row.field-0.0) (sym is.is.area) c.in_err-row.ensures.areas)

pub returns-in_err-row-clause-line : goal.returns-in_err-row-clause-line
returns-in_err-row-clause-line c =
    let p = err_from_is_err_and c.from_residual.result c.from_residual.ensures.1 in
    rw (p.1, p.2) (row_lacked c.args.variable c.in_err-row.field-0.0 c.in_err-row.ensures.line)
