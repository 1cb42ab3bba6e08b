use Rattle.std.proofs.Common.{◌≡◌, map, take, drop}
use Rattle.rdb_meaning.specs.Evaluation.{bind_sources}
use Rattle.rdb_meaning.specs.Checks.{sources_names}
use Rattle.rdo_values.specs.Places.{AreRanges}
use Rattle.rdo_bind.specs.Answers.{written_range}
use Rattle.rdo_bind.proofs.ranges.open_ranges.Given as goal

abbrev pub invariant-loop-range : goal.invariant-loop-range
invariant-loop-range l =
    (l.bound ≡ bind_sources (take l.range-index l.ranges) l.scope)
    × (sources_names l.ranges l.tables l.scope ≡ sources_names (drop l.range-index l.ranges) l.tables l.bound)
    × (map written_range l.opened ≡ take l.range-index l.ranges)
    × AreRanges l.opened l.tables
