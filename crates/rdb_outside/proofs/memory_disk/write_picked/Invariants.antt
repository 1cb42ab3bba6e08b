use Rattle.std.proofs.Common.{◌≡◌, ◌≤◌, ℕ, true, take}
use Rattle.rdb_types.specs.declared.file.FileId.{FileId}
use Rattle.rdb_outside.specs.Memory.{content_of}
use Rattle.rdb_outside.specs.Picks.{picked, turned, late_writes}
use Rattle.rdb_outside.specs.Plan.{are_within}
use Rattle.rdb_outside.proofs.memory_disk.write_picked.Given as goal

abbrev pub invariant-loop-k : goal.invariant-loop-k
invariant-loop-k l = record {
  image : (file : FileId) (slot : ℕ) → content_of l.log.items file slot ≡ picked (take l.k l.history) (turned l.kept) file slot;
  count : l.count ≡ late_writes (take l.k l.history);
  below : l.count ≤ l.k;
  fits : (slots : ℕ) → are_within slots l.history ≡ true → are_within slots l.initial.log.items ≡ true → are_within slots l.log.items ≡ true;
}
