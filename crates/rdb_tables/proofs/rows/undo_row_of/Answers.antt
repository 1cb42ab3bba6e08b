use Rattle.rdb_tables.specs.Undoing.{undo_row}
use Rattle.rdb_tables.proofs.RowsInPlace.{rows_put}
use Rattle.rdb_tables.proofs.rows.undo_row_of.Goals as goal

pub returns-clause-undone : goal.returns-clause-undone
returns-clause-undone c =
    rows_put c.args.name.now c.args.tables.now c.no_relation.result c.in-Some.relation c.undo_row.new.rows c.exchange.new.self c.exchange-2.new.self c.exchange-2.result
    c.in-Some.ensures.found c.in-Some.ensures.some c.exchange-2.ensures.found c.exchange-2.ensures.some (undo_row c.args.key.now c.args.before) c.undo_row.ensures
