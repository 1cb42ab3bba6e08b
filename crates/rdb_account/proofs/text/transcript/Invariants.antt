use Rattle.std.proofs.Common.{◌≡◌, ◌++◌, take}
use Rattle.std.specs.List.{flat_map}
use Rattle.rdb_account.specs.Events.{event_of}
use Rattle.rdb_account.specs.Transcript.{event_text}
use Rattle.rdb_account.proofs.text.transcript.Given as goal

abbrev pub invariant-loop-event : goal.invariant-loop-event
invariant-loop-event l = l.out ≡ l.initial.out ++ flat_map (λ e. event_text l.session.number (event_of e)) (take l.event-index l.events)
