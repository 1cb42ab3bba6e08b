use Rattle.std.proofs.Common.{◌≡◌, ◌+◌}
use Rattle.std.specs.Prelude.{vec_len, vec_capacity}
use Rattle.memory_store.specs.Landed.{landed_on}
use Rattle.memory_store.proofs.committed.lay_all.Given as goal

abbrev pub invariant-loop-batch : goal.invariant-loop-batch
invariant-loop-batch l =
    (landed_on l.landed.items l.map ≡ landed_on l.fn.landed.items l.fn.map)
    × (vec_len l.landed + l._batch ≡ vec_len l.fn.landed)
    × (vec_capacity l.landed ≡ vec_capacity l.fn.landed)
