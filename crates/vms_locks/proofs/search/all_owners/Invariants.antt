use Rattle.std.proofs.Common.{◌≡◌, ℕ, ◌+◌, ◌<◌, ◌≤◌, true, length}
use Rattle.vms_locks.specs.Search.{is_left}
use Rattle.vms_locks.proofs.search.all_owners.Given as goal

abbrev pub invariant-loop-owner : goal.invariant-loop-owner
invariant-loop-owner l = record {
  count : length l.owners.items + 1 ≡ l.owner;
  room : l.owners.capacity ≡ 16;
  all : (o : ℕ) → 1 ≤ o → o < l.owner → is_left l.owners.items o ≡ true;
}
