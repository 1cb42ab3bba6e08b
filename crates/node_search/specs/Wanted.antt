-- The keys that a search is for.
use Rattle.node_search.specs.declared.wanted.Wanted.{Wanted}
use Rattle.node_search.specs.declared.wanted.Wanted.TheVariants.{Key, Within}
use Rattle.sorted_index_laws.specs.Keys.{Interval, only, between}

abbrev pub interval_of : Wanted → Interval
interval_of (Key key) = only key.now
interval_of (Within bounds) = between bounds.now
