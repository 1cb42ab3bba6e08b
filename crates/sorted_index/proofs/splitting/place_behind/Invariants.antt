use Rattle.std.proofs.Common.{◌≡◌, ◌≤◌, take}
use Rattle.std.specs.List.{flat_map}
use Rattle.slot_fields.specs.Fields.{size}
use Rattle.index_node.specs.Node.{entry_fields}
use Rattle.sorted_index.proofs.splitting.place_behind.Given as goal

abbrev pub invariant-loop-at : goal.invariant-loop-at
invariant-loop-at l = (l.bytes ≡ size (flat_map entry_fields (take l.at l.entries))) × (l.bytes ≤ l.limit)
