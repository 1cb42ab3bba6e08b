-- What a request is answered, and the table that it leaves.
use Rattle.std.specs.Prelude.{◌≡◌, ℕ, Bool, true, false, List, Some}
use Rattle.rdb_types.specs.declared.node.Node.{Node}
use Rattle.vms_queues.specs.declared.lock_mode.Mode.{Mode}
use Rattle.vms_queues.specs.Queues.{Queues, is_grantable, ask_blockers, fits, blockers, first_of, with_lock, with_request, with_conversion, after_weaken}
use Rattle.vms_locks.specs.declared.answer.Enq.{Enq}
use Rattle.vms_locks.specs.declared.answer.Enq.TheVariants.{Granted, Asleep, NotQueued, Deadlock}
use Rattle.vms_locks.specs.Walks.{IsCycle, IsOnNoCycle}
use Rattle.vms_locks.specs.Table.{Table, queues_at, queues_with, WaitsIn, ChangesAt}

-- a request at a node: whether it is grantable, who stands in its way, and the node's queues once it is granted and once it is queued
pub record Request : Type 0 where
  pub grantable : Bool
  pub in_way : List ℕ
  pub granted : Queues
  pub queued : Queues

-- for a new lock
abbrev pub asking : Queues → ℕ → Mode → Request
asking q owner mode = record {
  grantable = is_grantable q owner mode;
  in_way = ask_blockers q owner mode;
  granted = with_lock q owner mode;
  queued = with_request q owner mode;
}

-- for another mode of a lock that is held
abbrev pub converting : Queues → ℕ → Mode → Request
converting q owner mode = record {
  grantable = fits owner mode q.granted;
  in_way = blockers owner mode q.granted;
  granted = after_weaken q owner mode;
  queued = with_conversion q owner mode;
}

-- who would wait for whom if the request were queued
abbrev pub WaitsQueued : Table → Node → Request → ℕ → ℕ → Type 0
WaitsQueued t node request = WaitsIn (queues_with (queues_at t) node request.queued)

-- each answer with its cause, of which one alone holds, and what it leaves
abbrev pub Answers : Table → Table → ℕ → Node → Bool → Request → Enq → Type 0
Answers old new owner node wait request Granted =
    (request.grantable ≡ true) × ChangesAt old new node request.granted
Answers old new owner node wait request Asleep =
    (request.grantable ≡ false) × (wait ≡ true) × IsOnNoCycle (WaitsQueued old node request) owner × ChangesAt old new node request.queued
Answers old new owner node wait request (NotQueued blocker) =
    (request.grantable ≡ false) × (wait ≡ false) × (first_of request.in_way ≡ Some blocker) × (new ≡ old)
Answers old new owner node wait request (Deadlock cycle) =
    (request.grantable ≡ false) × (wait ≡ true) × IsCycle (WaitsQueued old node request) owner cycle × (new ≡ old)
