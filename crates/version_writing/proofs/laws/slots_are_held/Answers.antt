use Rattle.disk_versions.proofs.Moves.{kept_by_reads, kept_aside, kept_in_slot}
use Rattle.version_writing.proofs.Held.{holds_moved}
use Rattle.version_writing.proofs.Freed.{holds_beside}
use Rattle.version_writing.proofs.laws.slots_are_held.Goals as goal

pub returns-clause-reads : goal.returns-clause-reads
returns-clause-reads g c = let v = g.D.Disk.view c.args.before.now in let w = g.D.Disk.view c.args.after.now in
    λ followed file limit table reads was. holds_moved v.content w.content followed file limit table (kept_by_reads v w followed c.requires.tells reads) was

pub returns-clause-aside : goal.returns-clause-aside
returns-clause-aside g c = let v = g.D.Disk.view c.args.before.now in let w = g.D.Disk.view c.args.after.now in
    λ followed file limit table other slot apart writes was. holds_moved v.content w.content followed file limit table (kept_aside v w followed other slot c.requires.tells apart writes) was

pub returns-clause-slot : goal.returns-clause-slot
returns-clause-slot g c = let v = g.D.Disk.view c.args.before.now in let w = g.D.Disk.view c.args.after.now in
    λ followed file limit table number slot free writes was. holds_moved v.content w.content followed file limit table (kept_in_slot v w followed number slot c.requires.tells free writes) was

pub returns-clause-beside : goal.returns-clause-beside
returns-clause-beside g c = let w = g.D.Disk.view c.args.after.now in
    λ followed file limit table number chain apart was. holds_beside w.content followed file limit table number chain apart was
