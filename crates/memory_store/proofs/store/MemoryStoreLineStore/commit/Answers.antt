use Rattle.std.proofs.Common.{refl, sym, ap, ◌∙◌, []}
use Rattle.line_store.specs.Seats.{committing, committing_by}
use Rattle.line_store.specs.Sights.{BeginsCommit}
use Rattle.memory_store.specs.declared.seat.Seat.TheVariants.{Outside}
use Rattle.memory_store.specs.Kept.{seat_at}
use Rattle.memory_store.proofs.Seating.{seat-here, moves-twice, copier-put-twice}
use Rattle.memory_store.proofs.Sighted.{moved, bare-commits}
use Rattle.memory_store.proofs.store.MemoryStoreLineStore.commit.Goals as goal

pub returns : goal.returns
returns c =
    let goes =
    moves-twice c.args.self.now c.take.new.self c.put.new.self c.args.s.number c.committing-seat.result (committing_by (seat_at c.args.self.now.seats c.args.s.number)) c.take.ensures.now c.put.ensures.now c.put.ensures.here
    (c.committing-seat.ensures ∙ ap committing_by (sym (seat-here c.args.self.now.seats c.args.s.number c.take.result c.take.ensures.was))) in
    record { does = moved c.args.self.now c.put.new.self c.args.s.number (committing_by (seat_at c.args.self.now.seats c.args.s.number)) (committing []) (BeginsCommit c.args.s.number) goes (bare-commits (seat_at c.args.self.now.seats c.args.s.number) c.requires.prepared) (copier-put-twice c.args.self.now c.take.new.self c.put.new.self c.args.s.number Outside c.committing-seat.result c.take.ensures.now c.put.ensures.now) refl goes }
