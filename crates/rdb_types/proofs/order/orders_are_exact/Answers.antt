use Rattle.rdb_types.specs.OrderLaws.{same_value, same_row, same_dbkey, same_chars}
use Rattle.rdb_types.proofs.order.orders_are_exact.Goals as goal

pub returns : goal.returns
returns c = record { values = same_value; rows = same_row; dbkeys = same_dbkey; names = same_chars }
