use Rattle.std.proofs.Common.{◌≡◌, ◌+◌, ◌-◌, ◌≤◌, length}
use Rattle.vms_locks.specs.Table.{table_of, queues_at}
use Rattle.vms_locks.specs.Search.{WaitsAsked}
use Rattle.vms_locks.proofs.Traces.{IsTrace, CoversOwners, PassedBy}
use Rattle.vms_locks.proofs.search.find_cycle.Given as goal

abbrev pub invariant-loop-place : goal.invariant-loop-place
invariant-loop-place l = record {
  traced : IsTrace (WaitsAsked (queues_at (table_of l.table)) l.asked) l.asked.owner l.reached.items;
  cover : CoversOwners l.asked.owner l.left.items l.reached.items;
  passed : PassedBy (WaitsAsked (queues_at (table_of l.table)) l.asked) l.left.items l.reached.items l.place;
  count : length l.left.items + length l.reached.items ≡ 17;
  room : l.reached.capacity ≡ 17;
  inside : l.place ≤ length l.reached.items;
}

abbrev pub decreases-loop-place : goal.decreases-loop-place
decreases-loop-place l = length l.left.items + (17 - l.place)
