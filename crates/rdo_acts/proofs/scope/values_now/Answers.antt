use Rattle.std.proofs.lemmas.Result.{err_from_is_err_and}
use Rattle.rdb_meaning.specs.Contents.{relation_named}
use Rattle.rdo_values.specs.Places.{IsRangeOf}
use Rattle.rdo_acts.specs.declared.scope.BoundRow.{BoundRow}
use Rattle.rdo_acts.proofs.VariableRow.{one_of, values_more}
use Rattle.std.proofs.Common.{◌∷◌, []}
use Rattle.rdo_acts.specs.Scopes.{scope_of}
use Rattle.rdo_acts.specs.Areas.{scope_uses}
use Rattle.rdo_acts.proofs.UsesWithin.{variable_within, reads_within}
use Rattle.row_writes.proofs.AreaLists.{stops_at}
use Rattle.rdo_acts.specs.Wanted.{IsRowOf}
use Rattle.rdo_acts.proofs.Wanting.{row_among}
use Rattle.rdo_acts.proofs.scope.values_now.Goals as goal

pub values_of-requires-clause-row : goal.values_of-requires-clause-row
values_of-requires-clause-row c =
    let t = c.args.given.now.schema.now.tables in
    (one_of (λ (v : BoundRow). IsRangeOf v.range.now (relation_named v.range.now.range.relation t)) c.args.scope.now c.loop-variable.variable-index c.variable-item.result c.requires.rows c.loop-variable-test.true c.variable-item.is, tt)

pub returns-in_err-own-clause-values : goal.returns-in_err-own-clause-values
returns-in_err-own-clause-values c = λ first t sound.
    let p = err_from_is_err_and c.from_residual.result c.from_residual.ensures.1 in
    rw (p.1, p.2) (c.in_err-own.ensures.values first t sound)

pub loop-variable-init : goal.loop-variable-init
loop-variable-init c = λ first t sound. c.new-values.ensures

pub loop-variable-preserved : goal.loop-variable-preserved
loop-variable-preserved c = λ first t sound.
    values_more t c.args.scope.now c.loop-variable.variable-index c.variable-item.result c.loop-variable.values c.in_ok-own.own c.append.new.self c.loop-variable-test.true c.variable-item.is c.in_ok-append.ensures (c.loop-variable.invariant first t sound) (c.in_ok-own.ensures.values first t sound)

pub returns-in_err-own-clause-areas : goal.returns-in_err-own-clause-areas
returns-in_err-own-clause-areas c = λ first t sound.
    let p = err_from_is_err_and c.from_residual.result c.from_residual.ensures.1 in
    let v = c.variable-item.result in
    rw (p.1, p.2)
    (reads_within t (scope_uses (scope_of (v ∷ []))) (scope_uses (scope_of c.args.scope.now)) (variable_within t c.args.scope.now c.loop-variable.variable-index v c.loop-variable-test.true c.variable-item.is) c.in_err-own.field-0.0
    (c.in_err-own.ensures.areas first t sound))

pub returns-in_err-own-clause-lines : goal.returns-in_err-own-clause-lines
returns-in_err-own-clause-lines c =
    let p = err_from_is_err_and c.from_residual.result c.from_residual.ensures.1 in
    let v = c.variable-item.result in
    rw (p.1, p.2)
    (stops_at (IsRowOf (scope_of (v ∷ []))) (IsRowOf (scope_of c.args.scope.now)) (λ need. row_among need c.args.scope.now c.loop-variable.variable-index v c.loop-variable-test.true c.variable-item.is) c.in_err-own.field-0.0 c.in_err-own.ensures.line)
