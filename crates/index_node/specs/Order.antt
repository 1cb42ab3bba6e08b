-- The order of entries.
use Rattle.std.specs.declared.cmp.Ordering.{Ordering}
use Rattle.std.specs.Ordering.{ordering_then}
use Rattle.record_format.specs.rdb_types.Order.{row_order, dbkey_order}
use Rattle.index_node.specs.declared.entry.NodeEntry.{NodeEntry}

-- by their keys, and equal keys by their rows
abbrev pub entry_order : NodeEntry → NodeEntry → Ordering
entry_order a b = ordering_then (row_order a.key b.key) (dbkey_order a.row b.row)
