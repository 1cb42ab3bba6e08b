use Rattle.std.proofs.Common.{take}
use Rattle.std.specs.List.{flat_map}
use Rattle.record_format.proofs.Laying.{HasLaid}
use Rattle.index_node.specs.Node.{entry_fields}
use Rattle.index_node.proofs.node.put_entries.Given as goal

abbrev pub invariant-loop-entry : goal.invariant-loop-entry
invariant-loop-entry l = HasLaid l.fn.slot l.slot l.at l.end (flat_map entry_fields (take l.entry-index l.entries))
