use Rattle.row_writes.proofs.Lines.{no_image_changed, row_changed}
use Rattle.row_writes.proofs.RowKept.{change_keeps, change_areas}
use Rattle.row_writes.proofs.rows.change_row.Goals as goal

pub returns-in-Err-clause-changes : goal.returns-in-Err-clause-changes
returns-in-Err-clause-changes c = no_image_changed c.args.view.now c.args.view.now c.args.relation.now c.args.row.now c.in-Err.reason c.in-Err.ensures.misfit c.in-Err.ensures.long c.args.at c.args.was.now

pub returns-clause-changes : goal.returns-clause-changes
returns-clause-changes c =
    row_changed c.args.view.now c.put.new.self c.change_pairs.new.view c.args.relation.now c.args.row.now c.in-Ok.image c.in-Ok.ensures.image c.in-Ok.ensures.fits c.in-Ok.ensures.short
    c.args.at c.in_ok-put.ensures.stands c.in_ok-put.ensures.laid c.put.ensures.known c.args.was.now c.change_pairs.result c.change_pairs.ensures.changes

pub returns-clause-areas : goal.returns-clause-areas
returns-clause-areas c =
    change_areas c.args.view.now c.change_pairs.new.view c.args.relation.now c.args.at c.args.was.now c.change_pairs.result
    (change_keeps c.args.view.now c.put.new.self c.change_pairs.new.view c.args.relation.now c.args.row.now c.in-Ok.image c.in-Ok.ensures.image c.in-Ok.ensures.fits c.in-Ok.ensures.short
    c.args.at c.in_ok-put.ensures.stands c.in_ok-put.ensures.laid c.put.ensures.known c.in_ok-put.ensures.areas c.args.was.now c.change_pairs.result c.change_pairs.ensures.nodes)

pub returns-clause-nodes : goal.returns-clause-nodes
returns-clause-nodes c =
    change_keeps c.args.view.now c.put.new.self c.change_pairs.new.view c.args.relation.now c.args.row.now c.in-Ok.image c.in-Ok.ensures.image c.in-Ok.ensures.fits c.in-Ok.ensures.short
    c.args.at c.in_ok-put.ensures.stands c.in_ok-put.ensures.laid c.put.ensures.known c.in_ok-put.ensures.areas c.args.was.now c.change_pairs.result c.change_pairs.ensures.nodes
