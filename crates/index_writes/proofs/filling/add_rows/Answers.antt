use Rattle.std.proofs.Common.{◌≡◌, ◌+◌, drop, List, ◌∷◌, refl, sym, ap, ◌∙◌, arith, rules}
use Rattle.std.proofs.lemmas.List.{drop_more, drop_all}
use Rattle.std.proofs.lemmas.Result.{err_from_is_err_and}
use Rattle.relation_rows.specs.declared.stored.StoredRow.{StoredRow}
use Rattle.index_writes.proofs.Filled.{all_begun, all_more, all_refused, all_ended}
use Rattle.index_writes.proofs.Kept.{none_kept, more_kept, stops_kept}
use Rattle.index_writes.proofs.filling.add_rows.Goals as goal

pub loop-row-init : goal.loop-row-init
loop-row-init c = record { some = all_begun c.args.view.now c.args.index.now c.args.rows.now; wrote = none_kept c.args.view.now c.args.index.now c.args.rows.now; base = refl }

pub loop-row-preserved : goal.loop-row-preserved
loop-row-preserved c =
    let rows : List StoredRow = c.args.rows.now in
    let i = c.loop-row.row-index in
    let row : StoredRow = c.row-item.result in
    let next : drop i rows ≡ row ∷ drop (i + 1) rows = drop_more rows i row c.loop-row-test.true ∙ ap (λ x. x ∷ drop (i + 1) rows) (sym c.row-item.is) in
    record {
      some = all_more c.args.view.now c.loop-row.view c.add_row.new.view c.args.index.now rows (drop i rows) (drop (i + 1) rows) row next c.loop-row.invariant.some c.in_ok-add_row.ensures.adds;
      wrote = more_kept c.args.view.now c.loop-row.view c.add_row.new.view c.args.index.now rows (drop i rows) (drop (i + 1) rows) row next c.loop-row.invariant.some c.loop-row.invariant.wrote c.in_ok-add_row.ensures.areas;
      base = search rules;
    }

pub returns-in_err-add_row-clause-adds : goal.returns-in_err-add_row-clause-adds
returns-in_err-add_row-clause-adds c =
    let rows : List StoredRow = c.args.rows.now in
    let i = c.loop-row.row-index in
    let row : StoredRow = c.row-item.result in
    let next : drop i rows ≡ row ∷ drop (i + 1) rows = drop_more rows i row c.loop-row-test.true ∙ ap (λ x. x ∷ drop (i + 1) rows) (sym c.row-item.is) in
    let p = err_from_is_err_and c.from_residual.result c.from_residual.ensures.1 in
    rw (p.1, p.2)
    (all_refused c.args.view.now c.loop-row.view c.add_row.new.view c.args.index.now rows (drop i rows) (drop (i + 1) rows) row c.in_err-add_row.field-0.0 next c.loop-row.invariant.some c.loop-row.invariant.base c.in_err-add_row.ensures.adds)

pub returns-clause-adds : goal.returns-clause-adds
returns-clause-adds c =
    let rows : List StoredRow = c.args.rows.now in
    all_ended c.args.view.now c.loop-row.view c.args.index.now rows (drop c.loop-row.row-index rows) (drop_all c.loop-row.row-index rows (omega arith)) c.loop-row.invariant.some

pub returns-in_err-add_row-clause-areas : goal.returns-in_err-add_row-clause-areas
returns-in_err-add_row-clause-areas c =
    let rows : List StoredRow = c.args.rows.now in
    let i = c.loop-row.row-index in
    let row : StoredRow = c.row-item.result in
    let next : drop i rows ≡ row ∷ drop (i + 1) rows = drop_more rows i row c.loop-row-test.true ∙ ap (λ x. x ∷ drop (i + 1) rows) (sym c.row-item.is) in
    let p = err_from_is_err_and c.from_residual.result c.from_residual.ensures.1 in
    rw (p.1, p.2) (stops_kept c.args.view.now c.loop-row.view c.add_row.new.view c.args.index.now rows (drop i rows) (drop (i + 1) rows) row next c.loop-row.invariant.some c.in_err-add_row.field-0.0 c.in_err-add_row.ensures.areas)

pub returns-clause-areas : goal.returns-clause-areas
returns-clause-areas c = c.loop-row.invariant.wrote
