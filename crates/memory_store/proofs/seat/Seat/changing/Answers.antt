use Rattle.std.proofs.Common.{◌<◌, ◌+◌, sym, subst, arith}
use Rattle.line_store.specs.Seats.{writes_of, lines_added, lines_written}
use Rattle.memory_store.specs.declared.seat.Seat.{Seat}
use Rattle.memory_store.specs.Kept.{seat_of}
use Rattle.memory_store.proofs.Counted.{lines-counted}
use Rattle.memory_store.proofs.seat.Seat.changing.Goals as goal

pub returns-in-Err-clause-full : goal.returns-in-Err-clause-full
returns-in-Err-clause-full c is-full =
    let less = c.in-Err.ensures.full is-full in
    let counted = lines-counted c.in-Writing.lines.lines c.in-Writing.lines.keys c.keys-keys.ensures.its in
    subst (λ (h : Seat). c.args.limit < lines_written (writes_of (seat_of h)) + lines_added (writes_of (seat_of h)) c.args.writes.now) (sym c.in-Writing.is) (omega (arith, less, counted))
