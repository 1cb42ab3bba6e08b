use Rattle.std.proofs.Common.{◌≡◌, ℕ, true, take}
use Rattle.rdb_types.specs.declared.file.FileId.{FileId}
use Rattle.rdb_outside.specs.Memory.{content_of}
use Rattle.rdb_outside.specs.Plan.{are_within}
use Rattle.rdb_outside.proofs.memory_disk.write_again.Given as goal

abbrev pub invariant-loop-event : goal.invariant-loop-event
invariant-loop-event l = record {
  same : (file : FileId) (slot : ℕ) → content_of l.log.items file slot ≡ content_of (take l.event-index l.history) file slot;
  fits : (slots : ℕ) → are_within slots l.history ≡ true → are_within slots l.log.items ≡ true;
}
