use Rattle.std.proofs.Common.{◌≡◌, ◌+◌, take}
use Rattle.std.specs.List.{sum_by}
use Rattle.rdb_meaning.specs.Contents.{value_length}
use Rattle.rdb_tables.proofs.image.is_too_long.Given as goal

abbrev pub invariant-loop-value : goal.invariant-loop-value
invariant-loop-value l = l.length ≡ 3 + sum_by value_length (take l.value-index l.row)
