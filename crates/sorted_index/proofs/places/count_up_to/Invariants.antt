use Rattle.std.proofs.Common.{◌≡◌, ◌+◌, drop}
use Rattle.sorted_index_laws.specs.Changes.{pair_of}
use Rattle.sorted_index_laws.specs.Inner.Steps.{count_up_to}
use Rattle.sorted_index.proofs.places.count_up_to.Given as goal

abbrev pub invariant-loop-at : goal.invariant-loop-at
invariant-loop-at l = count_up_to (pair_of l.key l.row) l.entries ≡ l.at + count_up_to (pair_of l.key l.row) (drop l.at l.entries)
