use Rattle.std.proofs.Common.{◌≡◌, ◌≤◌, ◌+◌, ◌++◌, map, drop, length}
use Rattle.std.specs.Vec.{vec_len, vec_capacity}
use Rattle.rdb_account.specs.Events.{event_of}
use Rattle.lock_ties.specs.Ties.{wanted_at}
use Rattle.line_account.proofs.recording.record_asking.Given as goal

abbrev pub invariant-loop-node : goal.invariant-loop-node
invariant-loop-node l =
    (map event_of l.events.items ++ wanted_at l.s.number l.need (drop l.node-index l.node-items) ≡ map event_of l.initial.events.items ++ wanted_at l.s.number l.need l.node-items)
    × (vec_len l.events + length (drop l.node-index l.node-items) ≤ vec_len l.initial.events + 4)
    × (vec_capacity l.events ≡ vec_capacity l.initial.events)
