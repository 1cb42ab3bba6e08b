-- Why work on an index stops.
use Rattle.line_view.specs.declared.stop.Stop.{Stop}
use Rattle.sorted_index_laws.specs.declared.stop.Duplicate.{Duplicate}

abbrev pub IndexStop : Type 0
IndexStop = Stop Duplicate
