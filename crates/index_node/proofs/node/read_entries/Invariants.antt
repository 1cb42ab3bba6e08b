use Rattle.std.proofs.Common.{◌-◌, length}
use Rattle.index_node.specs.Node.{entry_fields, IsEntry}
use Rattle.record_format.proofs.Lists.{HasRead}
use Rattle.index_node.proofs.node.read_entries.Given as goal

abbrev pub invariant-loop-at : goal.invariant-loop-at
invariant-loop-at l = HasRead entry_fields (IsEntry l.level) l.bytes l.from l.at l.entries

abbrev pub decreases-loop-at : goal.decreases-loop-at
decreases-loop-at l = length l.bytes - l.at
