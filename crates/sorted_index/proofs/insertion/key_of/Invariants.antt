use Rattle.std.proofs.Common.{◌≡◌, take}
use Rattle.sorted_index.proofs.insertion.key_of.Given as goal

abbrev pub invariant-loop-value : goal.invariant-loop-value
invariant-loop-value l = l.made ≡ take l.value-index l.key
