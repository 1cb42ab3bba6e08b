use Rattle.row_writes.proofs.Lines.{row_erased}
use Rattle.row_writes.proofs.RowKept.{erase_keeps, erase_areas}
use Rattle.row_writes.proofs.rows.erase_row.Goals as goal

pub returns-clause-erases : goal.returns-clause-erases
returns-clause-erases c =
    row_erased c.args.view.now c.put.new.self c.change_pairs.new.view c.args.indexes.now c.args.was.now c.args.at c.change_pairs.result c.in_ok-put.ensures.stands c.in_ok-put.ensures.laid c.put.ensures.known c.change_pairs.ensures.changes

pub returns-clause-areas : goal.returns-clause-areas
returns-clause-areas c =
    erase_areas c.args.view.now c.change_pairs.new.view c.args.indexes.now c.args.at c.args.was.now c.change_pairs.result
    (erase_keeps c.args.view.now c.put.new.self c.change_pairs.new.view c.args.indexes.now c.args.was.now c.args.at c.change_pairs.result c.in_ok-put.ensures.stands c.in_ok-put.ensures.laid c.in_ok-put.ensures.areas c.change_pairs.ensures.nodes)

pub returns-clause-nodes : goal.returns-clause-nodes
returns-clause-nodes c =
    erase_keeps c.args.view.now c.put.new.self c.change_pairs.new.view c.args.indexes.now c.args.was.now c.args.at c.change_pairs.result c.in_ok-put.ensures.stands c.in_ok-put.ensures.laid c.in_ok-put.ensures.areas c.change_pairs.ensures.nodes
