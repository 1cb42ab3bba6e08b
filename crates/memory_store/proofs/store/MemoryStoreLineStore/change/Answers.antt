use Rattle.std.proofs.Common.{◌≡◌, [], refl, sym, subst}
use Rattle.line_store.specs.Seats.{Seat, changing, writes_of, Adds}
use Rattle.line_store.specs.Calls.{Changes}
use Rattle.memory_store.specs.declared.seat.Seat.TheVariants.{Outside}
use Rattle.memory_store.specs.Kept.{IsChanged, seat_of, seat_at}
use Rattle.memory_store.proofs.Seating.{seat-here, moves-twice, put-back, copier-put-twice}
use Rattle.memory_store.proofs.Stepping.{changed, on-ok, on-err}
use Rattle.memory_store.proofs.Sighted.{moved, stays}
use Rattle.memory_store.proofs.store.MemoryStoreLineStore.change.Goals as goal

pub returns-in-Ok-clause-ok : goal.returns-in-Ok-clause-ok
returns-in-Ok-clause-ok c =
    let k = c.args.self.now in
    let s = c.args.s.number in
    let so : IsChanged c.args.writes.now (seat_of c.take.result) (seat_of c.changing-seat.result.0) = on-ok c.changing-seat.result.1 c.in-Ok.field-0 _ c.in-Ok.is c.changing-seat.ensures.ok in
    let adds : Adds c.args.writes.now (writes_of (seat_at k.seats s)) so.behind =
    subst (λ (x : Seat). Adds c.args.writes.now (writes_of x) so.behind) (sym (seat-here k.seats s c.take.result c.take.ensures.was)) so.adds in
    let goes = moves-twice k c.take.new.self c.put.new.self s c.changing-seat.result.0 (changing so.behind) c.take.ensures.now c.put.ensures.now c.put.ensures.here so.is in
    moved k c.put.new.self s (changing so.behind) (changing []) (Changes s c.args.writes.now) goes refl (copier-put-twice k c.take.new.self c.put.new.self s Outside c.changing-seat.result.0 c.take.ensures.now c.put.ensures.now) refl (changed k c.put.new.self s c.args.writes.now so.behind adds goes)

pub returns-in-Err-Full-clause-err : goal.returns-in-Err-Full-clause-err
returns-in-Err-Full-clause-err c =
    let same : seat_of c.changing-seat.result.0 ≡ seat_of c.take.result = on-err c.changing-seat.result.1 c.in-Err-Full.field-0 _ c.in-Err-Full.is c.changing-seat.ensures.err in
    stays c.args.self.now c.put.new.self c.args.s.number
    (put-back c.args.self.now c.take.new.self c.put.new.self c.args.s.number c.take.result c.changing-seat.result.0 c.take.ensures.was c.take.ensures.now c.put.ensures.now c.put.ensures.here same)
    (copier-put-twice c.args.self.now c.take.new.self c.put.new.self c.args.s.number Outside c.changing-seat.result.0 c.take.ensures.now c.put.ensures.now)

pub returns-in-Err-NoMemory-clause-err : goal.returns-in-Err-NoMemory-clause-err
returns-in-Err-NoMemory-clause-err c =
    let same : seat_of c.changing-seat.result.0 ≡ seat_of c.take.result = on-err c.changing-seat.result.1 c.in-Err-NoMemory.field-0 _ c.in-Err-NoMemory.is c.changing-seat.ensures.err in
    stays c.args.self.now c.put.new.self c.args.s.number
    (put-back c.args.self.now c.take.new.self c.put.new.self c.args.s.number c.take.result c.changing-seat.result.0 c.take.ensures.was c.take.ensures.now c.put.ensures.now c.put.ensures.here same)
    (copier-put-twice c.args.self.now c.take.new.self c.put.new.self c.args.s.number Outside c.changing-seat.result.0 c.take.ensures.now c.put.ensures.now)
