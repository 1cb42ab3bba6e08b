use Rattle.std.proofs.Common.{◌≡◌, drop}
use Rattle.workload_replies.specs.Replies.{counted_among}
use Rattle.workload_replies.proofs.replies.counted_in.Given as goal

abbrev pub invariant-loop-event : goal.invariant-loop-event
invariant-loop-event l = counted_among l.events ≡ counted_among (drop l.event-index l.events)
