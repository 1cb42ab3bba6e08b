use Rattle.std.proofs.Common.{◌≡◌, ◌<◌, ℕ, false, get_or, length}
use Rattle.rdb_outside.specs.Picks.{bit_of}
use Rattle.rdb_outside.proofs.memory_disk.bits.Given as goal

abbrev pub invariant-loop-j : goal.invariant-loop-j
invariant-loop-j l = record {
  all : length l.bits ≡ 32;
  each : (k : ℕ) → k < l.j → get_or l.bits k false ≡ bit_of l.pick k;
}
