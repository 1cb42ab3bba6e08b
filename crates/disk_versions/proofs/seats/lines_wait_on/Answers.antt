use Rattle.disk_versions.proofs.Moves.{seat_moves, kept_by_reads, kept_aside, kept_in_slot}
use Rattle.disk_versions.proofs.seats.lines_wait_on.Goals as goal

pub returns-clause-reads : goal.returns-clause-reads
returns-clause-reads g c = let v = g.D.Disk.view c.args.before.now in let w = g.D.Disk.view c.args.after.now in
    λ course tsn all lines reads was. seat_moves v w course tsn all lines (kept_by_reads v w course.followed c.requires.tells reads) was

pub returns-clause-aside : goal.returns-clause-aside
returns-clause-aside g c = let v = g.D.Disk.view c.args.before.now in let w = g.D.Disk.view c.args.after.now in
    λ course tsn all lines file slot other writes was. seat_moves v w course tsn all lines (kept_aside v w course.followed file slot c.requires.tells other writes) was

pub returns-clause-slot : goal.returns-clause-slot
returns-clause-slot g c = let v = g.D.Disk.view c.args.before.now in let w = g.D.Disk.view c.args.after.now in
    λ course tsn all lines number slot free writes was. seat_moves v w course tsn all lines (kept_in_slot v w course.followed number slot c.requires.tells free writes) was
