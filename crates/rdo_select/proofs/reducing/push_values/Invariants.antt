use Rattle.std.proofs.Common.{◌≡◌, ◌++◌, take, map}
use Rattle.rdo_select.specs.Ordered.{value_in}
use Rattle.rdo_select.proofs.reducing.push_values.Given as goal

abbrev pub invariant-loop-reference : goal.invariant-loop-reference
invariant-loop-reference l = l.values ≡ l.initial.values ++ map (value_in l.row) (take l.reference-index l.references)
