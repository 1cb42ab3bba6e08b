use Rattle.disk_seats.proofs.Marked.{new_facts}
use Rattle.disk_seats.proofs.laws.a_ledger_begins.Goals as goal

pub returns : goal.returns
returns g c = new_facts (g.D.Disk.view c.args.disk.now)
