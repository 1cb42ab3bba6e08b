use Rattle.std.proofs.Common.{take}
use Rattle.std.specs.List.{All}
use Rattle.record_format.specs.Values.{values_fields, IsValue}
use Rattle.record_format.proofs.Laying.{HasLaid}
use Rattle.record_format.proofs.value.put_values.Given as goal

abbrev pub invariant-loop-value : goal.invariant-loop-value
invariant-loop-value l = record {
  so_far : HasLaid l.fn.slot l.slot l.at l.end (values_fields (take l.value-index l.values));
  values : All IsValue (take l.value-index l.values);
}
