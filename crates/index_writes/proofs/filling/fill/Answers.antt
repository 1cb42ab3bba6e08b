use Rattle.index_writes.proofs.Filled.{filled_so}
use Rattle.index_writes.proofs.Kept.{fill_kept}
use Rattle.index_writes.proofs.filling.fill.Goals as goal

pub returns-clause-fills : goal.returns-clause-fills
returns-clause-fills c =
    filled_so c.args.view.now c.put.new.self c.add_rows.new.view c.args.index.now c.args.rows.now c.empty_leaf.result c.empty_leaf.ensures c.in_ok-put.ensures.stands c.in_ok-put.ensures.laid c.in_ok-put.ensures.known c.add_rows.result c.add_rows.ensures.adds

pub returns-clause-areas : goal.returns-clause-areas
returns-clause-areas c =
    fill_kept c.args.view.now c.put.new.self c.add_rows.new.view c.args.index.now c.args.rows.now c.empty_leaf.result c.empty_leaf.ensures c.in_ok-put.ensures.stands c.in_ok-put.ensures.laid c.in_ok-put.ensures.known c.in_ok-put.ensures.areas c.add_rows.result c.add_rows.ensures.areas
