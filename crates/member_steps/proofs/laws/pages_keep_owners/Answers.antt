use Rattle.disk_seats.proofs.of_line_moves.PageClasses.{owners_stay, owners_beside}
use Rattle.member_steps.proofs.laws.pages_keep_owners.Goals as goal

pub returns-clause-reads : goal.returns-clause-reads
returns-clause-reads g c = let v = g.D.Disk.view c.args.before.now in let w = g.D.Disk.view c.args.after.now in λ there area reads. owners_stay v w (reads.keeps c.requires).pending there area

pub returns-clause-writes : goal.returns-clause-writes
returns-clause-writes g c = let v = g.D.Disk.view c.args.before.now in let w = g.D.Disk.view c.args.after.now in λ there area file slot other writes. owners_beside v w file slot c.requires other writes there area
