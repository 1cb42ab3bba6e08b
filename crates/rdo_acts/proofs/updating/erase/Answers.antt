use Rattle.std.proofs.Common.{◌≡◌, ◌⊎◌, inl, inr, None, Ok, Err, refl, subst}
use Rattle.rdb_meaning.specs.Contents.{Row, relation_named}
use Rattle.row_writes.specs.Rows.{ErasesRow}
use Rattle.rdo_values.specs.Places.{IsRangeOf}
use Rattle.rdo_acts.specs.declared.scope.BoundRow.{BoundRow}
use Rattle.rdo_acts.specs.declared.work.Work.{Work}
use Rattle.rdo_acts.proofs.RowUpdated.{row_placed, variable_at, variable_there, erase_unread, erase_nothing, erase_done, erase_stopped}
use Rattle.rdo_acts.proofs.AreasWritten.{erased_for, unerased_for, erase_unread_for}
use Rattle.row_writes.proofs.AreaLists.{nothing_written}
use Rattle.used_areas.specs.Areas.{areas_changed}
use Rattle.rdb_meaning.specs.Checks.{act_uses}
use Rattle.rdo_bind.specs.Acting.{erase, named_act}
use Rattle.rdo_acts.specs.Scopes.{scope_of}
use Rattle.row_writes.specs.Areas.{EraseKeeps}
use Rattle.row_writes.specs.Areas.{EraseNodes}
use Rattle.rdo_acts.proofs.WantingRows.{erase_unread_wanting, unerased_wanting}
use Rattle.rdo_acts.proofs.updating.erase.Goals as goal
use Rattle.rdo_acts.proofs.updating.erase.Goals.{in_default-2-via-in-Some+in_default, in_default-2-via-in_default}

pub unreachable-requires : goal.unreachable-requires
unreachable-requires c = variable_there c.args.given.now.schema.now.tables c.args.scope.now c.args.variable.now c.requires.bound c.in_default.ensures.lookup

pub row_now-requires : goal.row_now-requires
row_now-requires c =
    let t = c.args.given.now.schema.now.tables in
    let v = c.args.variable.now in
    let bound = c.in-Some.bound in
    (row_placed (λ (w : BoundRow). IsRangeOf w.range.now (relation_named w.range.now.range.relation t)) c.args.scope.now v.number bound.now c.requires.rows (variable_at c.args.scope.now v.number bound c.in-Some.ensures.lookup), tt)

pub returns-in-Err-clause-runs : goal.returns-in-Err-clause-runs
returns-in-Err-clause-runs c =
    let given = c.args.given.now in
    let bound = c.in-Some.bound in
    let at = variable_at c.args.scope.now c.args.variable.now.number bound c.in-Some.ensures.lookup in
    rw c.of_view.ensures (erase_unread given c.args.scope.now c.args.variable.now bound.now at c.requires.rows c.requires.bound c.args.work.now c.args.work.now c.in-Err.stop c.in-Err.ensures.row)

pub returns-in-Ok-erase_row-clause-runs : goal.returns-in-Ok-erase_row-clause-runs
returns-in-Ok-erase_row-clause-runs c =
    let bound = c.in-Some.bound in
    let at = variable_at c.args.scope.now c.args.variable.now.number bound c.in-Some.ensures.lookup in
    let target = c.in-Ok.found.0 in
    let row = c.in-Some-Some.was in
    let new : Work = record c.args.work.now { view = c.erase_row.new.view } in
    erase_done c.args.given.now c.args.scope.now c.args.variable.now bound.now at c.requires.rows c.requires.bound c.args.work.now new target c.in-Ok.found.1 c.in-Some-Some.at row c.in-Ok.ensures.row c.in-Some-Some.is-0 c.in-Some-Some.is-1
    (subst (λ (r : Row). ErasesRow c.args.work.now.view c.erase_row.new.view target.indexes.now c.in-Some-Some.at r (Ok tt)) c.as_slice.ensures c.in-Ok-erase_row.ensures.erases) refl refl

pub returns-clause-runs : goal.returns-clause-runs
returns-clause-runs c =
    let bound = c.in-Some.bound in
    let at = variable_at c.args.scope.now c.args.variable.now.number bound c.in-Some.ensures.lookup in
    let target = c.in-Ok.found.0 in
    let row = c.in-Some-Some.was in
    let stop = c.in-Err-erase_row.stop in
    let new : Work = record c.args.work.now { view = c.erase_row.new.view } in
    erase_stopped c.args.given.now c.args.scope.now c.args.variable.now bound.now at c.requires.rows c.requires.bound c.args.work.now new target c.in-Ok.found.1 c.in-Some-Some.at row c.in-Ok.ensures.row c.in-Some-Some.is-0 c.in-Some-Some.is-1 stop c.of_row.result c.of_row.ensures
    (subst (λ (r : Row). ErasesRow c.args.work.now.view c.erase_row.new.view target.indexes.now c.in-Some-Some.at r (Err stop)) c.as_slice.ensures c.in-Err-erase_row.ensures.erases)

pub returns-in_default-2-clause-runs : goal.returns-in_default-2-clause-runs
returns-in_default-2-clause-runs c =
    let bound : BoundRow = c.in-Some.bound.now in
    let at = variable_at c.args.scope.now c.args.variable.now.number c.in-Some.bound c.in-Some.ensures.lookup in
    let gone : (bound.key ≡ None) ⊎ (c.in-Ok.found.1 ≡ None) =
    elim c.in_default-2.branch [ in_default-2-via-in-Some+in_default w ↦ inr w.in_default-2.is-1 | in_default-2-via-in_default w ↦ inl w.in_default-2.is-0 ] in
    erase_nothing c.args.given.now c.args.scope.now c.args.variable.now bound at c.requires.rows c.requires.bound c.args.work.now c.args.work.now c.in-Ok.found.0 c.in-Ok.found.1 c.in-Ok.ensures.row gone refl

pub returns-in-Err-clause-areas : goal.returns-in-Err-clause-areas
returns-in-Err-clause-areas c =
    let bound = c.in-Some.bound in
    let at = variable_at c.args.scope.now c.args.variable.now.number bound c.in-Some.ensures.lookup in
    rw c.of_view.ensures (erase_unread_for c.args.given.now c.args.scope.now c.args.variable.now bound.now at c.requires.rows c.requires.bound c.args.work.now c.args.work.now c.in-Err.stop c.in-Err.ensures.areas)

pub returns-in-Ok-erase_row-clause-areas : goal.returns-in-Ok-erase_row-clause-areas
returns-in-Ok-erase_row-clause-areas c =
    let bound = c.in-Some.bound in
    let at = variable_at c.args.scope.now c.args.variable.now.number bound c.in-Some.ensures.lookup in
    let target = c.in-Ok.found.0 in
    let new : Work = record c.args.work.now { view = c.erase_row.new.view } in
    erased_for c.args.given.now c.args.scope.now c.args.variable.now bound.now at c.requires.rows c.requires.bound c.args.work.now new target c.in-Ok.found.1 c.in-Some-Some.at c.in-Some-Some.was c.in-Ok.ensures.row c.in-Some-Some.is-0 c.in-Some-Some.is-1
    (subst (λ (r : Row). EraseKeeps c.args.work.now.view c.erase_row.new.view target.indexes.now c.in-Some-Some.at r (Ok tt)) c.as_slice.ensures c.in-Ok-erase_row.ensures.areas)

pub returns-clause-areas : goal.returns-clause-areas
returns-clause-areas c =
    let bound = c.in-Some.bound in
    let at = variable_at c.args.scope.now c.args.variable.now.number bound c.in-Some.ensures.lookup in
    let target = c.in-Ok.found.0 in
    let stop = c.in-Err-erase_row.stop in
    let new : Work = record c.args.work.now { view = c.erase_row.new.view } in
    unerased_for c.args.given.now c.args.scope.now c.args.variable.now bound.now at c.requires.rows c.requires.bound c.args.work.now new target c.in-Ok.found.1 c.in-Some-Some.at c.in-Some-Some.was c.in-Ok.ensures.row c.in-Some-Some.is-0 c.in-Some-Some.is-1 stop c.of_row.result c.of_row.ensures
    (subst (λ (r : Row). EraseKeeps c.args.work.now.view c.erase_row.new.view target.indexes.now c.in-Some-Some.at r (Err stop)) c.as_slice.ensures c.in-Err-erase_row.ensures.areas)

pub returns-in_default-2-clause-areas : goal.returns-in_default-2-clause-areas
returns-in_default-2-clause-areas c = λ values all start t holds own.
    nothing_written (areas_changed start (act_uses (named_act (erase c.args.variable.now)) (scope_of c.args.scope.now))) c.args.work.now.view

pub returns-in-Err-clause-wants : goal.returns-in-Err-clause-wants
returns-in-Err-clause-wants c =
    let bound = c.in-Some.bound in
    let at = variable_at c.args.scope.now c.args.variable.now.number bound c.in-Some.ensures.lookup in
    rw c.of_view.ensures (erase_unread_wanting c.args.given.now c.args.scope.now c.args.variable.now bound.now at c.requires.rows c.requires.bound c.args.work.now c.args.work.now c.in-Err.stop c.in-Err.ensures.line)

pub returns-clause-wants : goal.returns-clause-wants
returns-clause-wants c =
    let bound = c.in-Some.bound in
    let at = variable_at c.args.scope.now c.args.variable.now.number bound c.in-Some.ensures.lookup in
    let target = c.in-Ok.found.0 in
    let stop = c.in-Err-erase_row.stop in
    let new : Work = record c.args.work.now { view = c.erase_row.new.view } in
    unerased_wanting c.args.given.now c.args.scope.now c.args.variable.now bound.now at c.requires.rows c.requires.bound c.args.work.now new target c.in-Ok.found.1 c.in-Some-Some.at c.in-Some-Some.was c.in-Ok.ensures.row c.in-Some-Some.is-0 c.in-Some-Some.is-1 stop c.of_row.result c.of_row.ensures
    (subst (λ (r : Row). EraseNodes c.args.work.now.view c.erase_row.new.view target.indexes.now c.in-Some-Some.at r (Err stop)) c.as_slice.ensures c.in-Err-erase_row.ensures.nodes)
