use Rattle.sorted_index_laws.specs.Changes.{pair_of}
use Rattle.sorted_index_laws.proofs.PlacesIn.{KeptFrom}
use Rattle.sorted_index.proofs.places.pair_place.Given as goal

abbrev pub invariant-loop-at : goal.invariant-loop-at
invariant-loop-at l = KeptFrom (pair_of l.key l.row) l.entries l.at
