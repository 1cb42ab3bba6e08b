use Rattle.std.proofs.Common.{◌≡◌, take}
use Rattle.rdb_outside.specs.Memory.{content_of}
use Rattle.rdb_outside.proofs.memory_disk.read_from.Given as goal

abbrev pub invariant-loop-event : goal.invariant-loop-event
invariant-loop-event l = l.into ≡ content_of (take l.event-index l.log) l.file l.slot
