use Rattle.std.proofs.Common.{◌≡◌, take}
use Rattle.rdb_meaning.specs.Evaluation.{bind_sources}
use Rattle.rdo_bind.proofs.ranges.scope_behind.Given as goal

abbrev pub invariant-loop-range : goal.invariant-loop-range
invariant-loop-range l = l.bound ≡ bind_sources (take l.range-index l.ranges) l.scope
