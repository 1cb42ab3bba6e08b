use Rattle.std.proofs.Common.{ap, ◌∙◌}
use Rattle.member_memory.specs.Memory.{writes_in}
use Rattle.memory_store.specs.declared.seat.Seat.TheVariants.{Outside, Closing}
use Rattle.memory_store.specs.Kept.{Kept, seat_of, copier_of}
use Rattle.memory_store.proofs.Seating.{copier-put}
use Rattle.memory_store.proofs.Stepping.{committed}
use Rattle.memory_store.proofs.Sighted.{landed, came, may-answer, never-more, is-backed}
use Rattle.memory_store.proofs.store.MemoryStoreLineStore.step.Goals as goal

pub returns-in-Committing-clause-comes : goal.returns-in-Committing-clause-comes
returns-in-Committing-clause-comes c =
    landed c.args.self.now c.put.new.self c.args.s.number (record { number = 0 })
    (committed c.args.self.now c.take.new.self c.land.new.self c.put.new.self c.args.s.number c.take.result (writes_in c.in-Committing.lines.lines) c.land.new.self.room
    c.take.ensures.was (ap seat_of c.in-Committing.is)
    c.take.ensures.now c.land.ensures c.put.ensures.now c.put.ensures.here)
    (λ n. copier-put c.land.new.self c.put.new.self c.args.s.number Closing c.put.ensures.now n ∙ (ap (λ (k : Kept). copier_of k n) c.land.ensures ∙ copier-put c.args.self.now c.take.new.self c.args.s.number Outside c.take.ensures.now n))

pub returns-in_default : goal.returns-in_default
returns-in_default c = record {
  answers = may-answer c.args.self.now c.take.new.self c.put-in_default.new.self c.args.s.number c.take.result c.stepped-next.result.0 c.stepped-next.result.1 c.take.ensures.was c.stepped-next.ensures;
  comes = came c.args.self.now c.take.new.self c.put-in_default.new.self c.args.s.number c.take.result c.stepped-next.result.0 c.stepped-next.result.1 c.take.ensures.was
      c.stepped-next.ensures
      c.take.ensures.now c.put-in_default.ensures.now c.put-in_default.ensures.here;
  less = λ more. absurd (never-more (seat_of c.take.result) (seat_of c.stepped-next.result.0) c.stepped-next.result.1 c.stepped-next.ensures more);
  backed = λ done. is-backed c.args.self.now c.put-in_default.new.self c.args.s.number;
}
