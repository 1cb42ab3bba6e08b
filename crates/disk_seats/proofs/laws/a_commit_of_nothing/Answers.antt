use Rattle.disk_seats.proofs.Marked.{marked_facts}
use Rattle.disk_seats.proofs.laws.a_commit_of_nothing.Goals as goal

pub returns : goal.returns
returns g c = marked_facts (g.D.Disk.view c.args.disk.now)
