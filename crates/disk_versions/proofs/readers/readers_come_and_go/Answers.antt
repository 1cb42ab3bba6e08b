use Rattle.disk_versions.proofs.ReaderSteps.{reads, stops_reading}
use Rattle.disk_versions.proofs.readers.readers_come_and_go.Goals as goal

pub returns-clause-begins : goal.returns-clause-begins
returns-clause-begins g c = λ now limit course session active are was. reads (g.D.Disk.view c.args.disk.now) now limit course session active are was

pub returns-clause-ends : goal.returns-clause-ends
returns-clause-ends g c = λ now limit course session was. stops_reading (g.D.Disk.view c.args.disk.now) now limit course session was
