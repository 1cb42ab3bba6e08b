use Rattle.std.proofs.Common.{refl, sym, ap, ◌∙◌, []}
use Rattle.line_store.specs.Seats.{rolling_back, rolled_back}
use Rattle.line_store.specs.Sights.{RollsBack}
use Rattle.memory_store.specs.declared.seat.Seat.TheVariants.{Outside}
use Rattle.memory_store.specs.Kept.{seat_at}
use Rattle.memory_store.proofs.Seating.{seat-here, moves-twice, copier-put-twice}
use Rattle.memory_store.proofs.Sighted.{moved, bare-undone}
use Rattle.memory_store.proofs.store.MemoryStoreLineStore.roll_back.Goals as goal

pub returns : goal.returns
returns c =
    let goes =
    moves-twice c.args.self.now c.take.new.self c.put.new.self c.args.s.number c.rolling_back-seat.result (rolled_back (seat_at c.args.self.now.seats c.args.s.number)) c.take.ensures.now c.put.ensures.now c.put.ensures.here
    (c.rolling_back-seat.ensures ∙ ap rolled_back (sym (seat-here c.args.self.now.seats c.args.s.number c.take.result c.take.ensures.was))) in
    record { does = moved c.args.self.now c.put.new.self c.args.s.number (rolled_back (seat_at c.args.self.now.seats c.args.s.number)) (rolling_back []) (RollsBack c.args.s.number) goes (bare-undone (seat_at c.args.self.now.seats c.args.s.number) c.requires.seat) (copier-put-twice c.args.self.now c.take.new.self c.put.new.self c.args.s.number Outside c.rolling_back-seat.result c.take.ensures.now c.put.ensures.now) refl goes }
