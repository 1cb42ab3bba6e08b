use Rattle.std.proofs.Common.{refl, sym, ap, subst, ◌∙◌, []}
use Rattle.line_store.specs.Seats.{prepared, prepared_by}
use Rattle.line_store.specs.Shelves.{Shelf}
use Rattle.line_store.specs.Calls.{Moves}
use Rattle.line_store.specs.Sights.{Prepares}
use Rattle.memory_store.specs.declared.seat.Seat.TheVariants.{Outside}
use Rattle.memory_store.specs.Kept.{Kept, seat_at, shelf_of, copier_of}
use Rattle.memory_store.proofs.Seating.{seat-here, moves-twice, copier-put-twice}
use Rattle.memory_store.proofs.Sighted.{moved, bare-prepared}
use Rattle.memory_store.proofs.store.MemoryStoreLineStore.prepare.Goals as goal

pub returns-clause-ok : goal.returns-clause-ok
returns-clause-ok c =
    let there = prepared_by (seat_at c.args.self.now.seats c.args.s.number) in
    let goes =
    moves-twice c.make_room.new.self c.take.new.self c.put.new.self c.args.s.number c.preparing-seat.result there c.take.ensures.now c.put.ensures.now c.put.ensures.here
    (c.preparing-seat.ensures ∙ (ap prepared_by (sym (seat-here c.make_room.new.self.seats c.args.s.number c.take.result c.take.ensures.was))
    ∙ ap (λ (k : Kept). prepared_by (seat_at k.seats c.args.s.number)) c.make_room.ensures.same)) in
    let moves = subst (λ (h : Shelf). Moves c.args.s.number there h (shelf_of c.put.new.self)) (ap shelf_of c.make_room.ensures.same) goes in
    moved c.args.self.now c.put.new.self c.args.s.number there (prepared []) (Prepares c.args.s.number) moves (bare-prepared (seat_at c.args.self.now.seats c.args.s.number) c.requires.writing)
    (λ n. copier-put-twice c.make_room.new.self c.take.new.self c.put.new.self c.args.s.number Outside c.preparing-seat.result c.take.ensures.now c.put.ensures.now n ∙ ap (λ (k : Kept). copier_of k n) c.make_room.ensures.same) refl moves
