use Rattle.memory_store.proofs.Seating.{room-kept}
use Rattle.memory_store.proofs.store.MemoryStore.make_room.Goals as goal

pub invariant_of-self : goal.invariant_of-self
invariant_of-self c = room-kept c.self.inside.committed.room c.settle.new.self.room c.self.inside.seats.items c.self.invariant c.settle.ensures.no_less
