use Rattle.std.proofs.Common.{◌≡◌, ◌≤◌, ◌-◌, drop, take, []}
use Rattle.smallvec.specs.SmallVec.{small_vec_len, HasRoomFor}
use Rattle.vms_queues.specs.Queues.{requests_considered}
use Rattle.vms_queues.proofs.pass.consider_requests.Given as goal

abbrev pub decreases-loop-at : goal.decreases-loop-at
decreases-loop-at l = small_vec_len l.waiting - l.at

abbrev pub invariant-loop-at : goal.invariant-loop-at
invariant-loop-at l = record {
  within : l.at ≤ small_vec_len l.waiting;
  shorter : small_vec_len l.waiting ≤ small_vec_len l.fn.waiting;
  room : HasRoomFor l.granted (small_vec_len l.waiting);
  same : requests_considered l.converting l.granted.items (take l.at l.waiting.items) (drop l.at l.waiting.items) ≡ requests_considered l.converting l.fn.granted.items [] l.fn.waiting.items;
}
