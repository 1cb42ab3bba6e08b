use Rattle.std.specs.FinMap.Entries.{put}
use Rattle.std.proofs.lemmas.Result.{on_ok_weaker, on_err_weaker}
use Rattle.rdb_types.specs.Order.{dbkey_order}
use Rattle.rdb_tables.proofs.RowsInPlace.{rows_put, row_not_put}
use Rattle.rdb_tables.proofs.rows.put_row.Goals as goal

pub returns-clause-ok : goal.returns-clause-ok
returns-clause-ok c =
    on_ok_weaker c.put-outcome.result
    (rows_put c.args.name.now c.args.tables.now c.no_relation.result c.in-Some.relation c.put-outcome.new.self c.exchange.new.self c.exchange-2.new.self c.exchange-2.result
    c.in-Some.ensures.found c.in-Some.ensures.some c.exchange-2.ensures.found c.exchange-2.ensures.some (put dbkey_order c.args.key c.args.row))
    c.put-outcome.ensures.ok

pub returns-clause-err : goal.returns-clause-err
returns-clause-err c =
    on_err_weaker c.put-outcome.result
    (row_not_put c.args.name.now c.args.tables.now c.no_relation.result c.in-Some.relation c.put-outcome.new.self c.exchange.new.self c.exchange-2.new.self c.exchange-2.result
    c.in-Some.ensures.found c.in-Some.ensures.some c.exchange-2.ensures.found c.exchange-2.ensures.some c.as_slice-ordered.ensures.ordered)
    c.put-outcome.ensures.err
