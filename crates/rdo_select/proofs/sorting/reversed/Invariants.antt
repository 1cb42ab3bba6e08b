use Rattle.std.proofs.Common.{◌≡◌, ◌++◌, length, reverse}
use Rattle.rdo_select.proofs.sorting.reversed.Given as goal

abbrev pub invariant-loop-tuple : goal.invariant-loop-tuple
invariant-loop-tuple l = reverse l.initial.left ≡ l.tuples.items ++ reverse l.left

abbrev pub decreases-loop-tuple : goal.decreases-loop-tuple
decreases-loop-tuple l = length l.left
