use Rattle.std.proofs.Common.{◌≡◌, ℕ, ◌+◌, ◌<◌, ◌≤◌, ◌++◌, ◌∷◌, List, length}
use Rattle.vms_locks.specs.Search.{IsWayBack}
use Rattle.vms_locks.proofs.search.trace.Given as goal

abbrev pub invariant-loop-at : goal.invariant-loop-at
invariant-loop-at l = record {
  inside : l.at < length l.reached;
  way : (done : List ℕ) × (l.owners.items ≡ l.owner ∷ done) × ((rest : List ℕ) → IsWayBack l.reached l.at rest → IsWayBack l.reached l.from (done ++ rest));
  short : length l.owners.items + l.at ≤ l.from + 1;
  room : l.owners.capacity ≡ 17;
}

abbrev pub decreases-loop-at : goal.decreases-loop-at
decreases-loop-at l = l.at
