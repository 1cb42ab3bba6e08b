use Rattle.std.proofs.Common.{Ok, Err, refl, subst}
use Rattle.std.proofs.lemmas.Result.{err_from_is_err_and}
use Rattle.rdb_meaning.specs.Contents.{Row, relation_named}
use Rattle.row_writes.specs.Rows.{StoresRow}
use Rattle.rdo_acts.specs.declared.work.Work.{Work}
use Rattle.rdo_acts.proofs.Viewing.{relation_there}
use Rattle.rdo_acts.proofs.RowStored.{store_unmade, store_stopped, store_done}
use Rattle.rdo_acts.proofs.AreasWritten.{store_unmade_for, stored_for, unstored_for}
use Rattle.rdo_acts.proofs.WantingRows.{store_unmade_wanting, unstored_wanting}
use Rattle.rdo_acts.proofs.storing.store.Goals as goal

pub unreachable-requires : goal.unreachable-requires
unreachable-requires c = relation_there (relation_named c.args.range.now.range.relation c.args.given.now.schema.now.tables) c.requires.there c.in_default.ensures.stored

pub returns-in_err-row-clause-runs : goal.returns-in_err-row-clause-runs
returns-in_err-row-clause-runs c =
    let p = err_from_is_err_and c.from_residual.result c.from_residual.ensures.1 in
    rw (p.1, p.2)
    (store_unmade c.args.given.now c.args.range.now c.args.assigns.now c.args.values.now c.in-Some.target c.in-Some.ensures.target c.args.work.now c.args.work.now c.in_err-row.field-0.0 c.in_err-row.ensures.row refl)

pub returns-in_err-push-in-Ok-clause-runs : goal.returns-in_err-push-in-Ok-clause-runs
returns-in_err-push-in-Ok-clause-runs c = λ scope bound all start t holds own.
    let p = err_from_is_err_and c.from_residual-in_err-push-in-Ok.result c.from_residual-in_err-push-in-Ok.ensures.1 in
    rw (p.1, p.2) tt

pub returns-in-Ok-clause-runs : goal.returns-in-Ok-clause-runs
returns-in-Ok-clause-runs c =
    let new : Work = record c.args.work.now { view = c.store_row.new.view; given = c.push.new.self } in
    store_done c.args.given.now c.args.range.now c.args.assigns.now c.args.values.now c.in-Some.target c.in-Some.ensures.target c.args.work.now new c.in_ok-row.row c.in-Ok.key c.in_ok-row.ensures.row
    (subst (λ (row : Row). StoresRow c.args.work.now.view c.store_row.new.view c.in-Some.target row (Ok c.in-Ok.key)) c.as_slice.ensures c.in-Ok.ensures.stores) c.in_ok-push-in-Ok.ensures.ok refl

pub returns-clause-runs : goal.returns-clause-runs
returns-clause-runs c =
    let new : Work = record c.args.work.now { view = c.store_row.new.view } in
    store_stopped c.args.given.now c.args.range.now c.args.assigns.now c.args.values.now c.in-Some.target c.in-Some.ensures.target c.args.work.now new c.in_ok-row.row c.in-Err.stop c.of_row.result c.in_ok-row.ensures.row
    (subst (λ (row : Row). StoresRow c.args.work.now.view c.store_row.new.view c.in-Some.target row (Err c.in-Err.stop)) c.as_slice.ensures c.in-Err.ensures.stores) c.of_row.ensures refl

pub returns-in_err-row-clause-areas : goal.returns-in_err-row-clause-areas
returns-in_err-row-clause-areas c =
    let p = err_from_is_err_and c.from_residual.result c.from_residual.ensures.1 in
    rw (p.1, p.2)
    (store_unmade_for c.args.given.now c.args.range.now c.args.assigns.now c.args.values.now c.in-Some.target c.in-Some.ensures.target c.args.work.now c.args.work.now c.in_err-row.field-0.0 c.in_err-row.ensures.areas)

pub returns-in_err-push-in-Ok-clause-areas : goal.returns-in_err-push-in-Ok-clause-areas
returns-in_err-push-in-Ok-clause-areas c = λ scope bound all start t holds own.
    let p = err_from_is_err_and c.from_residual-in_err-push-in-Ok.result c.from_residual-in_err-push-in-Ok.ensures.1 in
    rw (p.1, p.2) tt

pub returns-in-Ok-clause-areas : goal.returns-in-Ok-clause-areas
returns-in-Ok-clause-areas c =
    let new : Work = record c.args.work.now { view = c.store_row.new.view; given = c.push.new.self } in
    stored_for c.args.given.now c.args.range.now c.args.assigns.now c.args.values.now c.in-Some.target c.in-Some.ensures.target c.args.work.now new c.in-Ok.key c.in-Ok.ensures.areas

pub returns-clause-areas : goal.returns-clause-areas
returns-clause-areas c =
    let new : Work = record c.args.work.now { view = c.store_row.new.view } in
    unstored_for c.args.given.now c.args.range.now c.args.assigns.now c.args.values.now c.in-Some.target c.in-Some.ensures.target c.args.work.now new c.in-Err.stop c.of_row.result c.of_row.ensures c.in-Err.ensures.areas

pub returns-in_err-row-clause-wants : goal.returns-in_err-row-clause-wants
returns-in_err-row-clause-wants c =
    let p = err_from_is_err_and c.from_residual.result c.from_residual.ensures.1 in
    rw (p.1, p.2)
    (store_unmade_wanting c.args.given.now c.args.range.now c.args.assigns.now c.args.values.now c.in-Some.target c.in-Some.ensures.target c.args.work.now c.args.work.now c.in_err-row.field-0.0 c.in_err-row.ensures.lacks)

pub returns-in_err-push-in-Ok-clause-wants : goal.returns-in_err-push-in-Ok-clause-wants
returns-in_err-push-in-Ok-clause-wants c = λ scope bound all start t holds own.
    let p = err_from_is_err_and c.from_residual-in_err-push-in-Ok.result c.from_residual-in_err-push-in-Ok.ensures.1 in
    rw (p.1, p.2) tt

pub returns-clause-wants : goal.returns-clause-wants
returns-clause-wants c =
    let new : Work = record c.args.work.now { view = c.store_row.new.view } in
    unstored_wanting c.args.given.now c.args.range.now c.args.assigns.now c.args.values.now c.in-Some.target c.in-Some.ensures.target c.args.work.now new c.in-Err.stop c.of_row.result c.of_row.ensures c.in-Err.ensures.nodes
