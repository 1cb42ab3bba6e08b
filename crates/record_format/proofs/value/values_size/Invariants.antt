use Rattle.std.proofs.Common.{◌≡◌, ◌≤◌, take}
use Rattle.slot_fields.specs.Fields.{size}
use Rattle.record_format.specs.Values.{values_fields}
use Rattle.record_format.proofs.value.values_size.Given as goal

abbrev pub invariant-loop-value : goal.invariant-loop-value
invariant-loop-value l = (l.bytes ≡ size (values_fields (take l.value-index l.values))) × (l.bytes ≤ l.limit)
