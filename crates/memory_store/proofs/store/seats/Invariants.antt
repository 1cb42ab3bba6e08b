use Rattle.std.proofs.Common.{◌≡◌, replicate}
use Rattle.memory_store.specs.declared.seat.Seat.TheVariants.{Outside}
use Rattle.memory_store.proofs.store.seats.Given as goal

abbrev pub invariant-loop-place : goal.invariant-loop-place
invariant-loop-place l = l.seats.items ≡ replicate l._place Outside
