use Rattle.std.proofs.Common.{◌≡◌, ℕ, true}
use Rattle.std.specs.Prelude.{map}
use Rattle.std.specs.Map.Iter.{deref_pair}
use Rattle.vms_locks.specs.Table.{queues_at, WaitsIn}
use Rattle.lock_tree_laws.specs.Wanted.{is_known}
use Rattle.lock_tree.proofs.sleeping.find_blocker.Given as goal

abbrev pub invariant-loop-other : goal.invariant-loop-other
invariant-loop-other l = (u : ℕ) → is_known (map deref_pair l.yielded) u ≡ true → WaitsIn (queues_at l.locks) l.owner u → ⊥
