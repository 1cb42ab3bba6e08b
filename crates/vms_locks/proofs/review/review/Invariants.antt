use Rattle.std.proofs.Common.{◌≡◌, ℕ, ◌<◌, ◌≤◌}
use Rattle.vms_queues.specs.Queues.{is_queued}
use Rattle.vms_locks.specs.Table.{table_of, queues_at}
use Rattle.vms_locks.specs.Places.{place_of, still_at}
use Rattle.vms_locks.proofs.review.review.Given as goal

abbrev pub invariant-loop-owner : goal.invariant-loop-owner
invariant-loop-owner l = record {
  before : (o : ℕ) → 1 ≤ o → o < l.owner → place_of l.places o ≡ still_at l.node (is_queued o (queues_at (table_of l.table) l.node)) (place_of l.fn.places o);
  after : (o : ℕ) → l.owner ≤ o → place_of l.places o ≡ place_of l.fn.places o;
  none : place_of l.places 0 ≡ place_of l.fn.places 0;
}
