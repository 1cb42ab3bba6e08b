use Rattle.std.proofs.Common.{◌≡◌, ◌≤◌, ◌-◌, drop, take, []}
use Rattle.smallvec.specs.SmallVec.{small_vec_len}
use Rattle.vms_queues.specs.Queues.{conversions_considered}
use Rattle.vms_queues.proofs.pass.consider_conversions.Given as goal

abbrev pub decreases-loop-at : goal.decreases-loop-at
decreases-loop-at l = small_vec_len l.converting - l.at

abbrev pub invariant-loop-at : goal.invariant-loop-at
invariant-loop-at l = record {
  within : l.at ≤ small_vec_len l.converting;
  shorter : small_vec_len l.converting ≤ small_vec_len l.fn.converting;
  same : conversions_considered l.granted (take l.at l.converting.items) (drop l.at l.converting.items) ≡ conversions_considered l.fn.granted [] l.fn.converting.items;
}
