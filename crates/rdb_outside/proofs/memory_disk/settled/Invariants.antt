use Rattle.std.proofs.Common.{◌≡◌, ◌≤◌, ◌<◌, ℕ, false, [], take, get_or}
use Rattle.rdb_types.specs.declared.file.FileId.{FileId}
use Rattle.rdb_outside.specs.Failing.{is_settled}
use Rattle.rdb_outside.specs.Memory.{content_of}
use Rattle.rdb_outside.specs.Picks.{crash_of}
use Rattle.rdb_outside.specs.declared.event.Event.{Event}
use Rattle.rdb_outside.proofs.memory_disk.settled.Given as goal

abbrev pub invariant-loop-i : goal.invariant-loop-i
invariant-loop-i l = record {
  within : l.end ≤ l.i;
  later : (k : ℕ) (d : Event) → l.end ≤ k → k < l.i → is_settled (get_or l.history k d).effect ≡ false;
  none : (crash_of (take l.end l.history)).late ≡ [];
  stable : (file : FileId) (slot : ℕ) → (crash_of (take l.end l.history)).stable file slot ≡ content_of (take l.end l.history) file slot;
}
