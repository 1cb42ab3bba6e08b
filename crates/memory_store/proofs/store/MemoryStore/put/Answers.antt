use Rattle.std.proofs.Common.{sym, subst}
use Rattle.memory_store.specs.Kept.{Kept, MayHave}
use Rattle.memory_store.proofs.Seating.{put-kept}
use Rattle.memory_store.proofs.store.MemoryStore.put.Goals as goal

pub invariant_of-self : goal.invariant_of-self
invariant_of-self c =
    put-kept c.self.inside.committed.room c.self.inside.seats.items c.self.invariant c.args.s.number c.args.seat
    (subst (λ (k : Kept). MayHave k c.args.seat) (sym c.self.view_is) c.requires.may)
