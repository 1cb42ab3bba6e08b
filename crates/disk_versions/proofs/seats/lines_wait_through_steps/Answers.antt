use Rattle.disk_versions.proofs.Pushes.{seat_beside_push}
use Rattle.disk_versions.proofs.SeatsBeside.{seat_begun, seat_undone, seat_landed, seat_reading, seat_read}
use Rattle.disk_versions.proofs.Given.{seat_beside_given}
use Rattle.disk_versions.proofs.seats.lines_wait_through_steps.Goals as goal

pub returns-clause-pushed : goal.returns-clause-pushed
returns-clause-pushed g c = λ course tsn all lines number chain entry stands other was. seat_beside_push (g.D.Disk.view c.args.disk.now) course number chain entry tsn all lines stands other was

pub returns-clause-begun : goal.returns-clause-begun
returns-clause-begun g c = λ course tsn all lines was. seat_begun (g.D.Disk.view c.args.disk.now) course tsn all lines was

pub returns-clause-undone : goal.returns-clause-undone
returns-clause-undone g c = λ course tsn all lines other apart was. seat_undone (g.D.Disk.view c.args.disk.now) course tsn all lines was other apart

pub returns-clause-landed : goal.returns-clause-landed
returns-clause-landed g c = λ course tsn all lines other committed apart befores theirs was. seat_landed (g.D.Disk.view c.args.disk.now) course tsn all lines was other committed apart befores theirs

pub returns-clause-reading : goal.returns-clause-reading
returns-clause-reading g c = λ course tsn all lines session active was. seat_reading (g.D.Disk.view c.args.disk.now) course tsn all lines was session active

pub returns-clause-read : goal.returns-clause-read
returns-clause-read g c = λ course tsn all lines session was. seat_read (g.D.Disk.view c.args.disk.now) course tsn all lines was session

pub returns-clause-given : goal.returns-clause-given
returns-clause-given g c = λ course tsn all lines given other was. seat_beside_given (g.D.Disk.view c.args.disk.now) course given tsn all lines other was
