use Rattle.std.proofs.Common.{◌≡◌, take}
use Rattle.memory_store.specs.Landed.{landed_on}
use Rattle.memory_store.proofs.committed.lay_landed.Given as goal

abbrev pub invariant-loop-batch : goal.invariant-loop-batch
invariant-loop-batch l = l.lines ≡ landed_on (take l.batch-index l.landed) l.fn.lines
