use Rattle.std.proofs.Common.{sym, ap, ◌∙◌, refl}
use Rattle.line_store.specs.Seats.{died}
use Rattle.line_store.specs.Sights.{Dies}
use Rattle.memory_store.specs.declared.seat.Seat.TheVariants.{Outside}
use Rattle.memory_store.specs.Kept.{seat_at}
use Rattle.memory_store.proofs.Seating.{seat-here, moves-twice, copier-put-twice}
use Rattle.memory_store.proofs.Sighted.{moved}
use Rattle.memory_store.proofs.store.MemoryStoreLineStore.die.Goals as goal

pub returns : goal.returns
returns c =
    let goes =
    moves-twice c.args.self.now c.take.new.self c.put.new.self c.args.s.number c.died-seat.result (died (seat_at c.args.self.now.seats c.args.s.number)) c.take.ensures.now c.put.ensures.now c.put.ensures.here
    (c.died-seat.ensures ∙ ap died (sym (seat-here c.args.self.now.seats c.args.s.number c.take.result c.take.ensures.was))) in
    record { does = moved c.args.self.now c.put.new.self c.args.s.number (died (seat_at c.args.self.now.seats c.args.s.number)) (died (seat_at c.args.self.now.seats c.args.s.number)) (Dies c.args.s.number) goes refl (copier-put-twice c.args.self.now c.take.new.self c.put.new.self c.args.s.number Outside c.died-seat.result c.take.ensures.now c.put.ensures.now) refl goes }
