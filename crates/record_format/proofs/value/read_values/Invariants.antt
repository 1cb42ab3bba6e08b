use Rattle.std.proofs.Common.{◌-◌, length}
use Rattle.record_format.specs.Values.{value_fields, IsValue}
use Rattle.record_format.proofs.Lists.{HasRead}
use Rattle.record_format.proofs.value.read_values.Given as goal

abbrev pub invariant-loop-at : goal.invariant-loop-at
invariant-loop-at l = HasRead value_fields IsValue l.bytes l.from l.at l.values

abbrev pub decreases-loop-at : goal.decreases-loop-at
decreases-loop-at l = length l.bytes - l.at
