use Rattle.std.proofs.Common.{sym, subst, [], ◌∷◌, map}
use Rattle.std.proofs.lemmas.Result.{err_from_is_err_and}
use Rattle.rdb_meaning.specs.Execution.{item_line}
use Rattle.line_view.specs.Held.{knows}
use Rattle.line_view.specs.Stops.{Lacks}
use Rattle.rdo_values.specs.Rows.{variables_of}
use Rattle.rdo_bind.specs.Acting.{written_item, IsBoundItem}
use Rattle.rdo_acts.specs.Printing.{IsNoLine}
use Rattle.rdo_acts.proofs.Stopping.{stops_so}
use Rattle.rdo_acts.proofs.PrintedValues.{whole, none_printed, all_printed, item_printed, item_refused}
use Rattle.rdb_meaning.specs.Checks.{shown_uses}
use Rattle.rdo_acts.proofs.UsesWithin.{print_within, reads_within}
use Rattle.rdo_acts.proofs.Lacking.{item_among}
use Rattle.rdo_acts.proofs.printing.printed_line.Goals as goal

pub loop-item-init : goal.loop-item-init
loop-item-init c = λ first t scope sound are same. none_printed c.args.items.now t scope c.new-line.result c.new-line.ensures

pub returns-in_err-piece-clause-line : goal.returns-in_err-piece-clause-line
returns-in_err-piece-clause-line c = λ first t scope sound are same.
    let p = err_from_is_err_and c.from_residual.result c.from_residual.ensures.1 in
    let i = c.loop-item.item-index in
    let x = c.item-item.result in
    let bound = subst (IsBoundItem t (variables_of scope)) (sym c.item-item.is) (are i x c.loop-item-test.true) in
    rw (p.1, p.2)
    (stops_so (Lacks (knows c.args.view.now.base)) (λ key. ⊥) (λ refusal. IsNoLine refusal (item_line (written_item x) t scope)) (λ refusal. IsNoLine refusal (whole c.args.items.now t scope))
    (λ refusal is. item_refused c.args.items.now t scope i x c.loop-item.line c.loop-item-test.true c.item-item.is (c.loop-item.invariant first t scope sound are same) refusal is)
    c.in_err-piece.field-0.0 (c.in_err-piece.ensures.line first t scope sound bound same))

pub loop-item-preserved : goal.loop-item-preserved
loop-item-preserved c = λ first t scope sound are same.
    let i = c.loop-item.item-index in
    let x = c.item-item.result in
    let bound = subst (IsBoundItem t (variables_of scope)) (sym c.item-item.is) (are i x c.loop-item-test.true) in
    item_printed c.args.items.now t scope i x c.loop-item.line c.loop-item-test.true c.item-item.is (c.loop-item.invariant first t scope sound are same) c.in_ok-piece.piece c.append.new.self c.in_ok-append.ensures (c.in_ok-piece.ensures.line first t scope sound bound same)

pub returns-clause-line : goal.returns-clause-line
returns-clause-line c = λ first t scope sound are same. all_printed c.args.items.now t scope c.loop-item.item-index c.loop-item.line c.loop-item-test.false (c.loop-item.invariant first t scope sound are same)

pub returns-in_err-piece-clause-areas : goal.returns-in_err-piece-clause-areas
returns-in_err-piece-clause-areas c = λ first t scope sound are same.
    let p = err_from_is_err_and c.from_residual.result c.from_residual.ensures.1 in
    let i = c.loop-item.item-index in
    let x = c.item-item.result in
    let bound = subst (IsBoundItem t (variables_of scope)) (sym c.item-item.is) (are i x c.loop-item-test.true) in
    rw (p.1, p.2)
    (reads_within t (shown_uses (written_item x ∷ [])) (shown_uses (map written_item c.args.items.now)) (print_within t c.args.items.now i x c.loop-item-test.true c.item-item.is) c.in_err-piece.field-0.0
    (c.in_err-piece.ensures.areas first t scope sound bound same))

pub returns-in_err-piece-clause-lacks : goal.returns-in_err-piece-clause-lacks
returns-in_err-piece-clause-lacks c = λ first t scope sound are same.
    let p = err_from_is_err_and c.from_residual.result c.from_residual.ensures.1 in
    let i = c.loop-item.item-index in
    let x = c.item-item.result in
    let bound = subst (IsBoundItem t (variables_of scope)) (sym c.item-item.is) (are i x c.loop-item-test.true) in
    rw (p.1, p.2)
    (item_among t c.args.given.now.sources.now.entries c.in_err-piece.field-0.0 (variables_of scope) c.args.items.now i x c.loop-item-test.true c.item-item.is (c.in_err-piece.ensures.lacks first t scope sound bound same))
