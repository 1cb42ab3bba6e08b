use Rattle.rdb_types.specs.OrderLaws.{value_total, row_total, dbkey_total, chars_total}
use Rattle.rdb_types.proofs.order.orders_are_total.Goals as goal

pub returns : goal.returns
returns c = record { values = value_total; rows = row_total; dbkeys = dbkey_total; names = chars_total }
