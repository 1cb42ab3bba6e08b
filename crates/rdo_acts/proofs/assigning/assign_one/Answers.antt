use Rattle.std.proofs.Common.{sym, subst, [], ◌∷◌}
use Rattle.line_view.specs.Held.{knows}
use Rattle.line_view.specs.Stops.{Stops, Lacks}
use Rattle.rdo_values.specs.Views.{expression_of}
use Rattle.rdo_acts.specs.Ends.{reply_of, IsUnassigned}
use Rattle.rdo_acts.proofs.Stopping.{value_stops}
use Rattle.rdo_acts.proofs.Viewing.{shows}
use Rattle.rdo_acts.proofs.RowAssigned.{alone, not_assigned, one_assigned, one_overflows, one_misfit}
use Rattle.rdb_meaning.specs.Checks.{expression_uses, assignments_uses}
use Rattle.rdo_bind.specs.Assigning.{written_assign}
use Rattle.statement_view.specs.Areas.{IsNeedOf}
use Rattle.used_areas.specs.Areas.{areas_read}
use Rattle.row_writes.proofs.AreaLists.{StopsAt}
use Rattle.rdo_acts.proofs.AreasRead.{value_reads, misfit_at}
use Rattle.rdo_acts.proofs.UsesWithin.{before, reads_within}
use Rattle.rdo_acts.specs.Stops.{stop_of_select}
use Rattle.statement_view.specs.Over.{knows_over}
use Rattle.rdo_values.specs.Rows.{variables_of}
use Rattle.std.proofs.Common.{◌++◌}
use Rattle.served_selections.specs.Ranges.{chosen_in}
use Rattle.rdo_acts.specs.Selections.{IsReadAmong}
use Rattle.rdo_acts.proofs.Lacking.{value_among, stops_left}
use Rattle.rdo_acts.proofs.assigning.assign_one.Goals as goal

pub returns-in_default-clause-assigns : goal.returns-in_default-clause-assigns
returns-in_default-clause-assigns c = λ first t scope sound bound same. not_assigned c.args.assign.now c.args.fields.now t scope c.args.row.now c.in_default.ensures.found

pub returns-in-Err-clause-assigns : goal.returns-in-Err-clause-assigns
returns-in-Err-clause-assigns c = λ first t scope sound bound same.
    let given = c.args.given.now in
    let view = c.args.view.now in
    let shown = shows given c.requires view t first sound in
    let own = alone c.args.assign.now c.args.fields.now t scope c.args.row.now in
    subst (Stops (Lacks (knows view.base)) (λ key. ⊥) (λ refusal. IsUnassigned (reply_of refusal) own)) (sym c.of_select.ensures)
    (value_stops given c.requires view t first sound (expression_of c.args.assign.now.right) scope (λ refusal. IsUnassigned (reply_of refusal) own)
    (one_overflows c.args.assign.now c.args.fields.now t scope c.args.row.now (c.in-Some.found.place, c.in-Some.found.field.now) c.in-Some.ensures.found) c.in-Err.stop
    (c.in-Err.ensures.value t scope shown bound.1 same) (c.in-Err.ensures.work t scope shown bound.1 same) c.in-Err.ensures.stop)

pub returns-in-Ok-fit-clause-assigns : goal.returns-in-Ok-fit-clause-assigns
returns-in-Ok-fit-clause-assigns c = λ first t scope sound bound same.
    let shown = shows c.args.given.now c.requires c.args.view.now t first sound in
    one_assigned c.args.assign.now c.args.fields.now t scope c.args.row.now (c.in-Some.found.place, c.in-Some.found.field.now) c.in-Some.ensures.found c.in-Ok.value c.in-Ok-fit.kept c.put.new.row (c.in-Ok.ensures.value t scope shown bound.1 same) c.in-Ok-fit.ensures c.put.ensures

pub returns-in-Err-fit-clause-assigns : goal.returns-in-Err-fit-clause-assigns
returns-in-Err-fit-clause-assigns c = λ first t scope sound bound same.
    let view = c.args.view.now in
    let shown = shows c.args.given.now c.requires view t first sound in
    let own = alone c.args.assign.now c.args.fields.now t scope c.args.row.now in
    subst (Stops (Lacks (knows view.base)) (λ key. ⊥) (λ refusal. IsUnassigned (reply_of refusal) own)) (sym c.of_misfit.ensures)
    (one_misfit c.args.assign.now c.args.fields.now t scope c.args.row.now (c.in-Some.found.place, c.in-Some.found.field.now) c.in-Some.ensures.found (knows view.base) c.in-Ok.value c.in-Err-fit.misfit (c.in-Ok.ensures.value t scope shown bound.1 same) c.in-Err-fit.ensures)

pub returns-in-Err-clause-areas : goal.returns-in-Err-clause-areas
returns-in-Err-clause-areas c = λ first t scope sound bound same.
    let given = c.args.given.now in
    let view = c.args.view.now in
    let shown = shows given c.requires view t first sound in
    let us = expression_uses (written_assign c.args.assign.now).right in
    subst (StopsAt (IsNeedOf (areas_read t (assignments_uses (written_assign c.args.assign.now ∷ []))) [])) (sym c.of_select.ensures)
    (reads_within t us (assignments_uses (written_assign c.args.assign.now ∷ [])) (before t us []) (stop_of_select c.in-Err.stop)
    (value_reads given c.requires view t first sound (expression_of c.args.assign.now.right) scope c.in-Err.stop bound.1 (c.in-Err.ensures.work t scope shown bound.1 same)))

pub returns-in-Err-fit-clause-areas : goal.returns-in-Err-fit-clause-areas
returns-in-Err-fit-clause-areas c = λ first t scope sound bound same.
    let next = IsNeedOf (areas_read t (assignments_uses (written_assign c.args.assign.now ∷ []))) [] in
    subst (StopsAt next) (sym c.of_misfit.ensures) (misfit_at next c.in-Err-fit.misfit)

pub returns-in-Err-clause-lacks : goal.returns-in-Err-clause-lacks
returns-in-Err-clause-lacks c = λ first t scope sound bound same.
    let given = c.args.given.now in
    let view = c.args.view.now in
    let sources = given.sources.now.entries in
    let e = expression_of c.args.assign.now.right in
    let shown = shows given c.requires view t first sound in
    let cs = chosen_in e (variables_of scope) in
    subst (StopsAt (IsReadAmong t sources (cs ++ []))) (sym c.of_select.ensures)
    (stops_left t sources (stop_of_select c.in-Err.stop) cs [] (value_among (knows_over view) sources t shown scope c.in-Err.stop e bound.1 (c.in-Err.ensures.work t scope shown bound.1 same)))

pub returns-in-Err-fit-clause-lacks : goal.returns-in-Err-fit-clause-lacks
returns-in-Err-fit-clause-lacks c = λ first t scope sound bound same.
    let next = IsReadAmong t c.args.given.now.sources.now.entries (chosen_in (expression_of c.args.assign.now.right) (variables_of scope) ++ []) in
    subst (StopsAt next) (sym c.of_misfit.ensures) (misfit_at next c.in-Err-fit.misfit)
