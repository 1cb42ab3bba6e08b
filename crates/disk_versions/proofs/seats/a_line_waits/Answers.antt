use Rattle.disk_versions.proofs.SeatLines.{seat_first, seat_further, seat_journalled}
use Rattle.disk_versions.proofs.seats.a_line_waits.Goals as goal

pub returns-clause-first : goal.returns-clause-first
returns-clause-first g c = λ now limit course key line tsn all lines more puts bears none ended goes is_first was seat.
    seat_first (g.D.Disk.view c.args.disk.now) course tsn all lines more key line puts bears seat now limit was none ended goes is_first

pub returns-clause-further : goal.returns-clause-further
returns-clause-further g c = λ course key line before tsn all lines more puts bears has one chain seat.
    seat_further (g.D.Disk.view c.args.disk.now) course tsn all lines more key line puts bears seat before has chain one

pub returns-clause-journalled : goal.returns-clause-journalled
returns-clause-journalled g c = λ now limit course key tsn all lines ended was seat. seat_journalled (g.D.Disk.view c.args.disk.now) now limit course key tsn all lines ended was seat
