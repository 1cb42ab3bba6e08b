-- The keys that a search is for follow one another.
use Rattle.node_search.specs.declared.wanted.Wanted.{Wanted}
use Rattle.node_search.specs.declared.wanted.Wanted.TheVariants.{Key, Within}
use Rattle.node_search.specs.Wanted.{interval_of}
use Rattle.sorted_index_laws.proofs.Intervals.{IsConvex, one_convex, bounds_convex}

pub convex : (w : Wanted) → IsConvex (interval_of w)
convex (Key key) = one_convex key.now
convex (Within bounds) = bounds_convex bounds.now
