use Rattle.std.proofs.Common.{sym, arith}
use Rattle.line_moves.proofs.KeyPlaces.{area_is}
use Rattle.fitted_groups.proofs.Claiming.{seat_inside, fitted_with, refuses, at_seat, off_seat, others_at}
use Rattle.fitted_groups.proofs.lines.fit_line.Goals as goal

pub seat_in-seat-requires : goal.seat_in-seat-requires
seat_in-seat-requires c =
    let names = c.in-Some.ensures.found in let area = area_is c.args.line.now.key c.in-Some.place names in
    record { first = names.is_data.is_page.first; last = names.is_data.is_page.last; low = area.first; high = area.last }

pub returns-in_default-clause-unfit : goal.returns-in_default-clause-unfit
returns-in_default-clause-unfit c = λ is image pages before are it. c.in_default.ensures.none it.place it.names

pub returns-then-seat-seats-clause-unfit : goal.returns-then-seat-seats-clause-unfit
returns-then-seat-seats-clause-unfit c = λ is image pages before are it.
    let inside = seat_inside image pages before c.args.claims.now are c.args.line.now c.in-Some.place c.in-Some.ensures.found it.within in
    let past = c.if-seat-seats.true in let seat = c.seat_in-seat.ensures in
    omega (arith, inside, past, seat)

pub returns-then-line-lines-clause-unfit : goal.returns-then-line-lines-clause-unfit
returns-then-line-lines-clause-unfit c = λ is image pages before are it.
    let less = it.line in let past = c.if-line-lines.true in let lines = c.lines_of-lines.ensures in omega (arith, less, past, lines)

pub returns-clause-fitted : goal.returns-clause-fitted
returns-clause-fitted c = λ is image pages before allowed are.
    let seat = c.seat_in-seat.ensures in
    let past = c.if-seat-seats.false in
    let off = c.if-line-lines.false in let lines = c.lines_of-lines.ensures in
    fitted_with image pages before c.args.claims.now are c.args.line.now c.in-Some.place c.in-Some.ensures.found c.claim_seat.new.claims
    (omega (arith, past, seat)) (omega (arith, off, lines)) allowed c.claim_seat.ensures.size
    (others_at c.args.claims.now c.claim_seat.new.claims _ _ seat c.claim_seat.ensures.others)
    (at_seat c.claim_seat.new.claims _ _ _ seat (c.claim_seat.ensures.claimed is))
    (off_seat c.args.claims.now _ _ _ seat (c.claim_seat.ensures.was is))

pub returns-clause-unfit : goal.returns-clause-unfit
returns-clause-unfit c = λ is image pages before are it.
    let seat = c.seat_in-seat.ensures in
    let past = c.if-seat-seats.false in
    refuses image pages before c.args.claims.now are c.args.line.now c.in-Some.place c.in-Some.ensures.found
    (omega (arith, past, seat))
    (λ may. c.claim_seat.ensures.refused is (off_seat c.args.claims.now _ _ _ (sym seat) may)) it
