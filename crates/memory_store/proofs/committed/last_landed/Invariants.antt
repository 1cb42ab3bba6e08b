use Rattle.std.proofs.Common.{◌≡◌, take}
use Rattle.line_view.specs.Knowledge.{Lines, line_in}
use Rattle.memory_store.specs.Landed.{landed_on}
use Rattle.memory_store.proofs.committed.last_landed.Given as goal

abbrev pub invariant-loop-batch : goal.invariant-loop-batch
invariant-loop-batch l = (all : Lines) → l.fn.before ≡ line_in l.key all → l.image ≡ line_in l.key (landed_on (take l.batch-index l.landed) all)
