-- Entries are in a total order.
use Rattle.std.proofs.lemmas.Cmp.{on_total, then_total}
use Rattle.std.specs.Cmp.{IsTotalOrder}
use Rattle.record_format.specs.rdb_types.OrderLaws.{row_total, dbkey_total}
use Rattle.index_node.specs.declared.entry.NodeEntry.{NodeEntry}
use Rattle.index_node.specs.Order.{entry_order}

pub entries_total : IsTotalOrder entry_order
entries_total = then_total (on_total (λ (e : NodeEntry). e.key) row_total) (on_total (λ (e : NodeEntry). e.row) dbkey_total)
