use Rattle.std.proofs.Common.{sym, subst, List}
use Rattle.memory_store.specs.declared.seat.Seat.{Seat as Held}
use Rattle.memory_store.specs.Kept.{AreKept}
use Rattle.memory_store.proofs.Seating.{fresh}
use Rattle.memory_store.proofs.store.MemoryStore.new.Goals as goal

pub invariant_of-result : goal.invariant_of-result
invariant_of-result c = subst (λ (hs : List Held). AreKept c.in_ok-committed.committed.room hs) (sym c.in_ok-seats.ensures) (fresh c.in_ok-committed.committed.room)
