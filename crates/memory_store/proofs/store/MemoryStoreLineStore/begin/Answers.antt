use Rattle.std.proofs.Common.{refl}
use Rattle.line_store.specs.Seats.{beginning}
use Rattle.line_store.specs.Calls.{Moves}
use Rattle.memory_store.specs.declared.seat.Seat.TheVariants.{Beginning}
use Rattle.memory_store.proofs.Seating.{moves, copier-put}
use Rattle.memory_store.proofs.Sighted.{moved}
use Rattle.memory_store.proofs.store.MemoryStoreLineStore.begin.Goals as goal

pub returns : goal.returns
returns c =
    let goes = moves c.args.self.now c.put.new.self c.args.s.number Beginning beginning c.put.ensures.now c.put.ensures.here refl in
    record { does = moved c.args.self.now c.put.new.self c.args.s.number beginning beginning (Moves c.args.s.number beginning) goes refl (copier-put c.args.self.now c.put.new.self c.args.s.number Beginning c.put.ensures.now) refl goes }
