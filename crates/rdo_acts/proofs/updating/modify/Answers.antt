use Rattle.std.proofs.Common.{◌≡◌, ◌⊎◌, inl, inr, None, Ok, Err, refl, subst}
use Rattle.std.proofs.lemmas.Result.{err_from_is_err_and}
use Rattle.rdb_meaning.specs.Contents.{Row, relation_named}
use Rattle.row_writes.specs.Rows.{ChangesRow}
use Rattle.rdo_values.specs.Places.{IsRangeOf}
use Rattle.rdo_acts.specs.declared.scope.BoundRow.{BoundRow}
use Rattle.rdo_acts.specs.declared.work.Work.{Work}
use Rattle.rdo_acts.proofs.RowMade.{MakesRow}
use Rattle.rdo_acts.proofs.RowUpdated.{row_placed, variable_at, variable_there, modify_unread, modify_nothing, modify_unmade, modify_done, modify_stopped}
use Rattle.rdo_acts.proofs.AreasWritten.{modified_for, unmodified_for, modify_unread_for, modify_unmade_for}
use Rattle.row_writes.proofs.AreaLists.{nothing_written}
use Rattle.used_areas.specs.Areas.{areas_changed}
use Rattle.rdb_meaning.specs.Checks.{act_uses}
use Rattle.rdo_bind.specs.Acting.{modify, named_act}
use Rattle.rdo_acts.specs.Scopes.{scope_of}
use Rattle.row_writes.specs.Areas.{ChangeKeeps}
use Rattle.row_writes.specs.Areas.{ChangeNodes}
use Rattle.rdo_acts.proofs.WantingRows.{modify_unread_wanting, modify_unmade_wanting, unmodified_wanting}
use Rattle.rdo_acts.proofs.updating.modify.Goals as goal
use Rattle.rdo_acts.proofs.updating.modify.Goals.{in_default-2-via-in-Some+in_default, in_default-2-via-in_default}

pub unreachable-requires : goal.unreachable-requires
unreachable-requires c = variable_there c.args.given.now.schema.now.tables c.args.scope.now c.args.variable.now c.requires.bound.0 c.in_default.ensures.lookup

pub row_now-requires : goal.row_now-requires
row_now-requires c =
    let t = c.args.given.now.schema.now.tables in
    let v = c.args.variable.now in
    let bound = c.in-Some.bound in
    (row_placed (λ (w : BoundRow). IsRangeOf w.range.now (relation_named w.range.now.range.relation t)) c.args.scope.now v.number bound.now c.requires.rows (variable_at c.args.scope.now v.number bound c.in-Some.ensures.lookup), tt)

pub returns-in-Err-clause-runs : goal.returns-in-Err-clause-runs
returns-in-Err-clause-runs c =
    let given = c.args.given.now in
    let bound = c.in-Some.bound in
    let at = variable_at c.args.scope.now c.args.variable.now.number bound c.in-Some.ensures.lookup in
    rw c.of_view.ensures
    (modify_unread given c.args.scope.now c.args.variable.now bound.now at c.requires.rows c.requires.bound.0 c.args.work.now c.args.work.now c.args.assigns.now c.requires.bound.1 c.args.values.now c.in-Err.stop c.in-Err.ensures.row)

pub returns-in_err-assign_all-clause-runs : goal.returns-in_err-assign_all-clause-runs
returns-in_err-assign_all-clause-runs c =
    let given = c.args.given.now in
    let bound = c.in-Some.bound in
    let at = variable_at c.args.scope.now c.args.variable.now.number bound c.in-Some.ensures.lookup in
    let target = c.in-Ok.found.0 in
    let row = c.in-Some-Some.was in
    let p = err_from_is_err_and c.from_residual-in_err-assign_all.result c.from_residual-in_err-assign_all.ensures.1 in
    rw (p.1, p.2)
    (modify_unmade given c.args.scope.now c.args.variable.now bound.now at c.requires.rows c.requires.bound.0 c.args.work.now c.args.work.now c.args.assigns.now c.requires.bound.1 c.args.values.now
    target c.in-Ok.found.1 c.in-Some-Some.at row c.in-Ok.ensures.row c.in-Some-Some.is-0 c.in-Some-Some.is-1 c.assign_all.new.row c.in_err-assign_all.field-0.0
    (subst (λ (begun : Row). MakesRow given.schema.now c.args.work.now.view target.stored.fields.now c.args.assigns.now {T = Unit {0}} c.args.values.now (λ done. c.assign_all.new.row) begun (Err c.in_err-assign_all.field-0.0)) c.in_ok-row.ensures c.in_err-assign_all.ensures.assigns) refl)

pub returns-in-Ok-change_row-clause-runs : goal.returns-in-Ok-change_row-clause-runs
returns-in-Ok-change_row-clause-runs c =
    let given = c.args.given.now in
    let bound = c.in-Some.bound in
    let at = variable_at c.args.scope.now c.args.variable.now.number bound c.in-Some.ensures.lookup in
    let target = c.in-Ok.found.0 in
    let row = c.in-Some-Some.was in
    let made = c.assign_all.new.row in
    let new : Work = record c.args.work.now { view = c.change_row.new.view } in
    modify_done given c.args.scope.now c.args.variable.now bound.now at c.requires.rows c.requires.bound.0 c.args.work.now new c.args.assigns.now c.requires.bound.1 c.args.values.now
    target c.in-Ok.found.1 c.in-Some-Some.at row c.in-Ok.ensures.row c.in-Some-Some.is-0 c.in-Some-Some.is-1 made
    (subst (λ (begun : Row). MakesRow given.schema.now c.args.work.now.view target.stored.fields.now c.args.assigns.now {T = Unit {0}} c.args.values.now (λ done. made) begun (Ok tt)) c.in_ok-row.ensures c.in_ok-assign_all.ensures.assigns)
    (subst (λ (r : Row). ChangesRow c.args.work.now.view c.change_row.new.view target c.in-Some-Some.at row r (Ok tt)) c.as_slice-row.ensures
    (subst (λ (r : Row). ChangesRow c.args.work.now.view c.change_row.new.view target c.in-Some-Some.at r c.as_slice-row.result.now (Ok tt)) c.as_slice-was.ensures c.in-Ok-change_row.ensures.changes)) refl refl

pub returns-clause-runs : goal.returns-clause-runs
returns-clause-runs c =
    let given = c.args.given.now in
    let bound = c.in-Some.bound in
    let at = variable_at c.args.scope.now c.args.variable.now.number bound c.in-Some.ensures.lookup in
    let target = c.in-Ok.found.0 in
    let row = c.in-Some-Some.was in
    let made = c.assign_all.new.row in
    let stop = c.in-Err-change_row.stop in
    let new : Work = record c.args.work.now { view = c.change_row.new.view } in
    modify_stopped given c.args.scope.now c.args.variable.now bound.now at c.requires.rows c.requires.bound.0 c.args.work.now new c.args.assigns.now c.requires.bound.1 c.args.values.now
    target c.in-Ok.found.1 c.in-Some-Some.at row c.in-Ok.ensures.row c.in-Some-Some.is-0 c.in-Some-Some.is-1 made stop c.of_row.result
    (subst (λ (begun : Row). MakesRow given.schema.now c.args.work.now.view target.stored.fields.now c.args.assigns.now {T = Unit {0}} c.args.values.now (λ done. made) begun (Ok tt)) c.in_ok-row.ensures c.in_ok-assign_all.ensures.assigns)
    (subst (λ (r : Row). ChangesRow c.args.work.now.view c.change_row.new.view target c.in-Some-Some.at row r (Err stop)) c.as_slice-row.ensures
    (subst (λ (r : Row). ChangesRow c.args.work.now.view c.change_row.new.view target c.in-Some-Some.at r c.as_slice-row.result.now (Err stop)) c.as_slice-was.ensures c.in-Err-change_row.ensures.changes)) c.of_row.ensures refl

pub returns-in_default-2-clause-runs : goal.returns-in_default-2-clause-runs
returns-in_default-2-clause-runs c =
    let bound : BoundRow = c.in-Some.bound.now in
    let at = variable_at c.args.scope.now c.args.variable.now.number c.in-Some.bound c.in-Some.ensures.lookup in
    let gone : (bound.key ≡ None) ⊎ (c.in-Ok.found.1 ≡ None) =
    elim c.in_default-2.branch [ in_default-2-via-in-Some+in_default w ↦ inr w.in_default-2.is-1 | in_default-2-via-in_default w ↦ inl w.in_default-2.is-0 ] in
    modify_nothing c.args.given.now c.args.scope.now c.args.variable.now bound at c.requires.rows c.requires.bound.0 c.args.work.now c.args.work.now c.args.assigns.now c.requires.bound.1 c.args.values.now c.in-Ok.found.0 c.in-Ok.found.1 c.in-Ok.ensures.row gone refl

pub returns-in-Err-clause-areas : goal.returns-in-Err-clause-areas
returns-in-Err-clause-areas c =
    let bound = c.in-Some.bound in
    let at = variable_at c.args.scope.now c.args.variable.now.number bound c.in-Some.ensures.lookup in
    rw c.of_view.ensures (modify_unread_for c.args.given.now c.args.scope.now c.args.variable.now bound.now at c.requires.rows c.requires.bound.0 c.args.work.now c.args.work.now c.args.assigns.now c.requires.bound.1 c.args.values.now c.in-Err.stop c.in-Err.ensures.areas)

pub returns-in_err-assign_all-clause-areas : goal.returns-in_err-assign_all-clause-areas
returns-in_err-assign_all-clause-areas c =
    let bound = c.in-Some.bound in
    let at = variable_at c.args.scope.now c.args.variable.now.number bound c.in-Some.ensures.lookup in
    let p = err_from_is_err_and c.from_residual-in_err-assign_all.result c.from_residual-in_err-assign_all.ensures.1 in
    rw (p.1, p.2) (modify_unmade_for c.args.given.now c.args.scope.now c.args.variable.now bound.now at c.requires.rows c.requires.bound.0 c.args.work.now c.args.work.now c.args.assigns.now c.requires.bound.1 c.args.values.now c.in-Ok.found.0.stored.fields.now c.in_err-assign_all.field-0.0 c.in_err-assign_all.ensures.areas)

pub returns-in-Ok-change_row-clause-areas : goal.returns-in-Ok-change_row-clause-areas
returns-in-Ok-change_row-clause-areas c =
    let bound = c.in-Some.bound in
    let at = variable_at c.args.scope.now c.args.variable.now.number bound c.in-Some.ensures.lookup in
    let target = c.in-Ok.found.0 in
    let new : Work = record c.args.work.now { view = c.change_row.new.view } in
    modified_for c.args.given.now c.args.scope.now c.args.variable.now bound.now at c.requires.rows c.requires.bound.0 c.args.work.now new c.args.assigns.now c.requires.bound.1 c.args.values.now target c.in-Ok.found.1 c.in-Some-Some.at c.in-Some-Some.was c.in-Ok.ensures.row c.in-Some-Some.is-0 c.in-Some-Some.is-1
    (subst (λ (r : Row). ChangeKeeps c.args.work.now.view c.change_row.new.view target c.in-Some-Some.at r (Ok tt)) c.as_slice-was.ensures c.in-Ok-change_row.ensures.areas)

pub returns-clause-areas : goal.returns-clause-areas
returns-clause-areas c =
    let bound = c.in-Some.bound in
    let at = variable_at c.args.scope.now c.args.variable.now.number bound c.in-Some.ensures.lookup in
    let target = c.in-Ok.found.0 in
    let stop = c.in-Err-change_row.stop in
    let new : Work = record c.args.work.now { view = c.change_row.new.view } in
    unmodified_for c.args.given.now c.args.scope.now c.args.variable.now bound.now at c.requires.rows c.requires.bound.0 c.args.work.now new c.args.assigns.now c.requires.bound.1 c.args.values.now target c.in-Ok.found.1 c.in-Some-Some.at c.in-Some-Some.was c.in-Ok.ensures.row c.in-Some-Some.is-0 c.in-Some-Some.is-1 stop c.of_row.result c.of_row.ensures
    (subst (λ (r : Row). ChangeKeeps c.args.work.now.view c.change_row.new.view target c.in-Some-Some.at r (Err stop)) c.as_slice-was.ensures c.in-Err-change_row.ensures.areas)

pub returns-in_default-2-clause-areas : goal.returns-in_default-2-clause-areas
returns-in_default-2-clause-areas c = λ all start t holds own.
    nothing_written (areas_changed start (act_uses (named_act (modify c.args.variable.now c.args.assigns.now)) (scope_of c.args.scope.now))) c.args.work.now.view

pub returns-in-Err-clause-wants : goal.returns-in-Err-clause-wants
returns-in-Err-clause-wants c =
    let bound = c.in-Some.bound in
    let at = variable_at c.args.scope.now c.args.variable.now.number bound c.in-Some.ensures.lookup in
    rw c.of_view.ensures (modify_unread_wanting c.args.given.now c.args.scope.now c.args.variable.now bound.now at c.requires.rows c.requires.bound.0 c.args.work.now c.args.work.now c.args.assigns.now c.requires.bound.1 c.args.values.now c.in-Err.stop c.in-Err.ensures.line)

pub returns-in_err-assign_all-clause-wants : goal.returns-in_err-assign_all-clause-wants
returns-in_err-assign_all-clause-wants c =
    let bound = c.in-Some.bound in
    let at = variable_at c.args.scope.now c.args.variable.now.number bound c.in-Some.ensures.lookup in
    let p = err_from_is_err_and c.from_residual-in_err-assign_all.result c.from_residual-in_err-assign_all.ensures.1 in
    rw (p.1, p.2) (modify_unmade_wanting c.args.given.now c.args.scope.now c.args.variable.now bound.now at c.requires.rows c.requires.bound.0 c.args.work.now c.args.work.now c.args.assigns.now c.requires.bound.1 c.args.values.now c.in_err-assign_all.field-0.0 c.in_err-assign_all.ensures.lacks)

pub returns-clause-wants : goal.returns-clause-wants
returns-clause-wants c =
    let bound = c.in-Some.bound in
    let at = variable_at c.args.scope.now c.args.variable.now.number bound c.in-Some.ensures.lookup in
    let target = c.in-Ok.found.0 in
    let stop = c.in-Err-change_row.stop in
    let new : Work = record c.args.work.now { view = c.change_row.new.view } in
    unmodified_wanting c.args.given.now c.args.scope.now c.args.variable.now bound.now at c.requires.rows c.requires.bound.0 c.args.work.now new c.args.assigns.now c.requires.bound.1 c.args.values.now target c.in-Ok.found.1 c.in-Some-Some.at c.in-Some-Some.was c.in-Ok.ensures.row c.in-Some-Some.is-0 c.in-Some-Some.is-1 stop c.of_row.result c.of_row.ensures
    (subst (λ (r : Row). ChangeNodes c.args.work.now.view c.change_row.new.view target c.in-Some-Some.at r (Err stop)) c.as_slice-was.ensures c.in-Err-change_row.ensures.nodes)
