use Rattle.ledger_versions.proofs.Restanding.{first_readers}
use Rattle.ledger_versions.proofs.reading.readers_begin.Goals as goal

pub returns : goal.returns
returns g c = λ base moment limit course was. first_readers (g.D.Disk.view c.args.disk.now) base moment limit course was
