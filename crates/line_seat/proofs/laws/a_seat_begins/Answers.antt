use Rattle.line_seat.proofs.SeatStays.{seat_begins}
use Rattle.line_seat.proofs.laws.a_seat_begins.Goals as goal

pub returns : goal.returns
returns g c = λ now member was is idle. seat_begins (g.D.Disk.view c.args.disk.now) now member was is idle
