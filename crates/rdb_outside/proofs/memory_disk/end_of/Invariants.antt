use Rattle.std.proofs.Common.{◌≡◌, ◌≤◌, ℕ, take}
use Rattle.rdb_outside.specs.Disk.{zeros}
use Rattle.rdb_outside.specs.Memory.{content_of}
use Rattle.rdb_outside.proofs.memory_disk.end_of.Given as goal

abbrev pub invariant-loop-event : goal.invariant-loop-event
invariant-loop-event l = record {
  zeros : (slot : ℕ) → l.end ≤ slot → content_of (take l.event-index l.log) l.file slot ≡ zeros l.file;
  within : l.end ≤ l.slots;
}
