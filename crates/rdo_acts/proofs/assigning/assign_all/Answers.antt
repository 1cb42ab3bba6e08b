use Rattle.std.proofs.Common.{List, map, refl, sym, subst, ◌∙◌, [], ◌∷◌}
use Rattle.std.proofs.lemmas.List.{at_drop_all}
use Rattle.std.proofs.lemmas.Result.{err_from_is_err_and}
use Rattle.rdb_meaning.specs.Execution.{assign}
use Rattle.line_view.specs.Held.{knows}
use Rattle.line_view.specs.Stops.{Lacks}
use Rattle.rdo_values.specs.Rows.{variables_of}
use Rattle.rdo_bind.specs.declared.assign.BoundAssign.{BoundAssign}
use Rattle.rdo_bind.specs.Assigning.{written_assign, IsBoundAssign}
use Rattle.rdo_acts.specs.Ends.{reply_of, IsUnassigned}
use Rattle.rdo_acts.proofs.Stopping.{stops_so}
use Rattle.rdo_acts.proofs.RowAssigned.{alone, assign_goes, assign_ends}
use Rattle.rdb_meaning.specs.Checks.{assignments_uses}
use Rattle.rdo_acts.proofs.UsesWithin.{assign_within, reads_within}
use Rattle.rdo_acts.proofs.Wanting.{assign_among}
use Rattle.rdo_acts.proofs.assigning.assign_all.Goals as goal

pub loop-assign-init : goal.loop-assign-init
loop-assign-init c = λ first t scope sound are same. refl

pub returns-in_err-assign_one-clause-assigns : goal.returns-in_err-assign_one-clause-assigns
returns-in_err-assign_one-clause-assigns c = λ first t scope sound are same.
    let p = err_from_is_err_and c.from_residual.result c.from_residual.ensures.1 in
    let i = c.loop-assign.assign-index in
    let x = c.assign-item.result in
    let bound = subst (IsBoundAssign t (variables_of scope)) (sym c.assign-item.is) (are i x c.loop-assign-test.true) in
    let whole = assign (map written_assign c.args.assigns.now) c.args.fields.now t scope c.args.row.now in
    rw (p.1, p.2)
    (stops_so (Lacks (knows c.args.view.now.base)) (λ key. ⊥) (λ refusal. IsUnassigned (reply_of refusal) (alone x c.args.fields.now t scope c.loop-assign.row)) (λ refusal. IsUnassigned (reply_of refusal) whole)
    (λ refusal is. assign_ends c.args.assigns.now i x c.args.fields.now t scope c.loop-assign.row c.loop-assign-test.true c.assign-item.is (reply_of refusal) whole (c.loop-assign.invariant first t scope sound are same) is)
    c.in_err-assign_one.field-0.0 (c.in_err-assign_one.ensures.assigns first t scope sound bound same))

pub loop-assign-preserved : goal.loop-assign-preserved
loop-assign-preserved c = λ first t scope sound are same.
    let i = c.loop-assign.assign-index in
    let x = c.assign-item.result in
    let bound = subst (IsBoundAssign t (variables_of scope)) (sym c.assign-item.is) (are i x c.loop-assign-test.true) in
    c.loop-assign.invariant first t scope sound are same
    ∙ assign_goes c.args.assigns.now i x c.args.fields.now t scope c.loop-assign.row c.loop-assign-test.true c.assign-item.is c.assign_one.new.row (c.in_ok-assign_one.ensures.assigns first t scope sound bound same)

pub returns-clause-assigns : goal.returns-clause-assigns
returns-clause-assigns c = λ first t scope sound are same.
    c.loop-assign.invariant first t scope sound are same
    ∙ at_drop_all (λ (l : List BoundAssign). assign (map written_assign l) c.args.fields.now t scope c.loop-assign.row) c.args.assigns.now c.loop-assign.assign-index c.loop-assign-test.false

pub returns-in_err-assign_one-clause-areas : goal.returns-in_err-assign_one-clause-areas
returns-in_err-assign_one-clause-areas c = λ first t scope sound are same.
    let p = err_from_is_err_and c.from_residual.result c.from_residual.ensures.1 in
    let i = c.loop-assign.assign-index in
    let x = c.assign-item.result in
    let bound = subst (IsBoundAssign t (variables_of scope)) (sym c.assign-item.is) (are i x c.loop-assign-test.true) in
    rw (p.1, p.2)
    (reads_within t (assignments_uses (written_assign x ∷ [])) (assignments_uses (map written_assign c.args.assigns.now)) (assign_within t c.args.assigns.now i x c.loop-assign-test.true c.assign-item.is) c.in_err-assign_one.field-0.0
    (c.in_err-assign_one.ensures.areas first t scope sound bound same))

pub returns-in_err-assign_one-clause-lacks : goal.returns-in_err-assign_one-clause-lacks
returns-in_err-assign_one-clause-lacks c = λ first t scope sound are same.
    let p = err_from_is_err_and c.from_residual.result c.from_residual.ensures.1 in
    let i = c.loop-assign.assign-index in
    let x = c.assign-item.result in
    let bound = subst (IsBoundAssign t (variables_of scope)) (sym c.assign-item.is) (are i x c.loop-assign-test.true) in
    rw (p.1, p.2)
    (assign_among t c.args.given.now.sources.now.entries c.in_err-assign_one.field-0.0 (variables_of scope) c.args.assigns.now i x c.loop-assign-test.true c.assign-item.is (c.in_err-assign_one.ensures.lacks first t scope sound bound same))
