use Rattle.std.proofs.Common.{not, filter}
use Rattle.std.specs.Ordering.{is_eq}
use Rattle.rdb_types.specs.Order.{dbkey_order}
use Rattle.rdb_tables.proofs.RowsInPlace.{rows_put}
use Rattle.rdb_tables.proofs.rows.take_row.Goals as goal

pub returns-clause-taken : goal.returns-clause-taken
returns-clause-taken c =
    rows_put c.args.name.now c.args.tables.now c.no_relation.result c.in-Some.relation c.remove.new.self c.exchange.new.self c.exchange-2.new.self c.exchange-2.result
    c.in-Some.ensures.found c.in-Some.ensures.some c.exchange-2.ensures.found c.exchange-2.ensures.some (filter (λ e. not (is_eq (dbkey_order c.args.key.now e.0))))
    c.remove.ensures.removed
