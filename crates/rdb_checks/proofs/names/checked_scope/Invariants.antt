use Rattle.std.proofs.Common.{◌≡◌, take, drop}
use Rattle.rdb_meaning.specs.Evaluation.{bind_sources}
use Rattle.rdb_meaning.specs.Checks.{sources_names}
use Rattle.rdb_checks.proofs.names.checked_scope.Given as goal

abbrev pub invariant-loop-range : goal.invariant-loop-range
invariant-loop-range l =
    (l.bound ≡ bind_sources (take l.range-index l.ranges) l.scope)
    × (sources_names l.ranges l.tables l.scope ≡ sources_names (drop l.range-index l.ranges) l.tables l.bound)
