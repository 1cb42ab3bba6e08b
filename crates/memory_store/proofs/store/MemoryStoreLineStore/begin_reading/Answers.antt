use Rattle.std.proofs.Common.{◌∙◌, ap, refl, []}
use Rattle.line_store.specs.Seats.{reading}
use Rattle.memory_store.specs.declared.seat.Seat.TheVariants.{Reading}
use Rattle.memory_store.specs.Kept.{Kept}
use Rattle.line_store.specs.Sights.{BeginsReading}
use Rattle.memory_store.proofs.Seating.{moves, copier-put}
use Rattle.memory_store.proofs.Sighted.{moved}
use Rattle.memory_store.proofs.store.MemoryStoreLineStore.begin_reading.Goals as goal

pub returns-clause-ok : goal.returns-clause-ok
returns-clause-ok c =
    let goes =
    moves c.args.self.now c.put.new.self c.args.s.number (Reading c.in_ok-start.start) (reading c.args.self.now.lines) c.put.ensures.now c.put.ensures.here
    (ap reading (c.in_ok-start.ensures ∙ ap (λ (k : Kept). k.lines) c.self.view_is)) in
    moved c.args.self.now c.put.new.self c.args.s.number (reading c.args.self.now.lines) (reading []) (BeginsReading c.args.s.number) goes refl (copier-put c.args.self.now c.put.new.self c.args.s.number (Reading c.in_ok-start.start) c.put.ensures.now) refl goes
