use Rattle.std.proofs.Common.{sym, ap, ◌∙◌}
use Rattle.access_paths.specs.declared.choice.Access.TheVariants.{Find}
use Rattle.index_rows.proofs.Giving.{scan_everywhere, find_everywhere, range_everywhere}
use Rattle.index_rows.proofs.access.accessed.Goals as goal

pub returns-in-Scan-clause-gives : goal.returns-in-Scan-clause-gives
returns-in-Scan-clause-gives g c =
    scan_everywhere (g.V.View.knows c.args.view.now) c.args.relation.now c.rows.result c.args.access.now c.in-Scan.is
    (record { rows = c.rows.ensures.rows; whole = c.rows.ensures.known; missing = c.rows.ensures.missing; bad = c.rows.ensures.bad })

pub returns-in-Find-clause-gives : goal.returns-in-Find-clause-gives
returns-in-Find-clause-gives g c =
    find_everywhere (g.V.View.knows c.args.view.now) c.args.relation.now c.rows_found.result c.args.access.now c.in-Find.root c.as_slice.result.now c.find-found.result
    (c.in-Find.is ∙ ap (λ key. Find c.in-Find.root key) (sym c.as_slice.ensures)) c.find-found.ensures.answers c.rows_found.ensures

pub returns-in-Range-clause-gives : goal.returns-in-Range-clause-gives
returns-in-Range-clause-gives g c =
    range_everywhere (g.V.View.knows c.args.view.now) c.args.relation.now c.rows_found-in-Range.result c.args.access.now c.in-Range.root c.in-Range.bounds c.range-found.result
    c.in-Range.is c.range-found.ensures.answers c.rows_found-in-Range.ensures
