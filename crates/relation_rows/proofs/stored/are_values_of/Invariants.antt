use Rattle.std.proofs.Common.{◌≡◌, drop}
use Rattle.relation_rows.specs.Stored.{are_values_of}
use Rattle.relation_rows.proofs.stored.are_values_of.Given as goal

abbrev pub invariant-loop-value : goal.invariant-loop-value
invariant-loop-value l = are_values_of l.left (drop l.value-index l.values) ≡ are_values_of l.fn.fields l.values
