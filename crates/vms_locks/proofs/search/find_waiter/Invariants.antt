use Rattle.std.proofs.Common.{◌≡◌, ℕ, true, take}
use Rattle.vms_locks.specs.Table.{table_of, queues_at}
use Rattle.vms_locks.specs.Search.{WaitsAsked, is_left}
use Rattle.vms_locks.proofs.search.find_waiter.Given as goal

abbrev pub invariant-loop-at : goal.invariant-loop-at
invariant-loop-at l = (a : ℕ) → is_left (take l.at l.left) a ≡ true → WaitsAsked (queues_at (table_of l.table)) l.asked a l.blocker → ⊥
