use Rattle.disk_versions.proofs.SeatLines.{line_pushed, seat_pushes}
use Rattle.disk_versions.proofs.seats.a_line_is_pushed.Goals as goal

pub returns-clause-versions : goal.returns-clause-versions
returns-clause-versions g c = let v = g.D.Disk.view c.args.before.now in let w = g.D.Disk.view c.args.after.now in
    λ now limit course key line some within free writes stands ended goes was. line_pushed v w now limit course key line c.requires.tells some within free writes stands ended goes was

pub returns-clause-seat : goal.returns-clause-seat
returns-clause-seat g c = let v = g.D.Disk.view c.args.before.now in let w = g.D.Disk.view c.args.after.now in
    λ now limit course key line some within free writes stands ended goes was tsn all lines more puts bears none seat.
    seat_pushes v w now limit course key line c.requires.tells some within free writes stands ended goes was tsn all lines more puts bears none seat
