use Rattle.std.proofs.Common.{refl, sym, ap, ◌∙◌, []}
use Rattle.line_store.specs.Seats.{writing, given_back}
use Rattle.line_store.specs.Sights.{GivesBack}
use Rattle.memory_store.specs.declared.seat.Seat.TheVariants.{Outside}
use Rattle.memory_store.specs.Kept.{seat_at}
use Rattle.memory_store.proofs.Seating.{seat-here, moves-twice, copier-put-twice}
use Rattle.memory_store.proofs.Sighted.{moved, bare-given-back}
use Rattle.memory_store.proofs.store.MemoryStoreLineStore.give_back.Goals as goal

pub returns : goal.returns
returns c =
    let goes =
    moves-twice c.args.self.now c.take.new.self c.put.new.self c.args.s.number c.giving_back-seat.result (given_back (seat_at c.args.self.now.seats c.args.s.number)) c.take.ensures.now c.put.ensures.now c.put.ensures.here
    (c.giving_back-seat.ensures ∙ ap given_back (sym (seat-here c.args.self.now.seats c.args.s.number c.take.result c.take.ensures.was))) in
    record { does = moved c.args.self.now c.put.new.self c.args.s.number (given_back (seat_at c.args.self.now.seats c.args.s.number)) (writing []) (GivesBack c.args.s.number) goes (bare-given-back (seat_at c.args.self.now.seats c.args.s.number) c.requires.prepared) (copier-put-twice c.args.self.now c.take.new.self c.put.new.self c.args.s.number Outside c.giving_back-seat.result c.take.ensures.now c.put.ensures.now) refl goes }
