use Rattle.std.proofs.Common.{◌≡◌, ◌+◌}
use Rattle.smallvec.specs.SmallVec.{small_vec_len, HasRoomFor}
use Rattle.vms_queues.specs.Queues.{Queues, considered}
use Rattle.vms_queues.proofs.pass.consider.Given as goal

abbrev pub decreases-passes : goal.decreases-passes
decreases-passes l = small_vec_len l.converting + small_vec_len l.waiting

abbrev pub invariant-passes : goal.invariant-passes
invariant-passes l = record {
  room : HasRoomFor l.granted (small_vec_len l.waiting);
  same : (let now : Queues = record { granted = l.granted.items; converting = l.converting.items; waiting = l.waiting.items } in
      let first : Queues = record { granted = l.fn.granted.items; converting = l.fn.converting.items; waiting = l.fn.waiting.items } in considered now ≡ considered first);
}
