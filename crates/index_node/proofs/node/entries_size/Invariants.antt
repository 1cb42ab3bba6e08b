use Rattle.std.proofs.Common.{◌≡◌, ◌≤◌, take}
use Rattle.std.specs.List.{flat_map}
use Rattle.record_format.specs.slot_fields.Fields.{size}
use Rattle.index_node.specs.Node.{entry_fields}
use Rattle.index_node.proofs.node.entries_size.Given as goal

abbrev pub invariant-loop-entry : goal.invariant-loop-entry
invariant-loop-entry l = (l.bytes ≡ size (flat_map entry_fields (take l.entry-index l.entries))) × (l.bytes ≤ l.limit)
