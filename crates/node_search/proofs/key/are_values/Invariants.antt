use Rattle.std.proofs.Common.{length, ◌-◌, List}
use Rattle.rdb_types.specs.declared.values.Value.{Value}
use Rattle.record_format.specs.Values.{value_fields, IsValue}
use Rattle.record_format.proofs.Lists.{HasRead}
use Rattle.node_search.proofs.key.are_values.Given as goal

abbrev pub invariant-loop-at : goal.invariant-loop-at
invariant-loop-at l = (front : List Value) × HasRead value_fields IsValue l.bytes l.from l.at front

abbrev pub decreases-loop-at : goal.decreases-loop-at
decreases-loop-at l = length l.bytes - l.at
