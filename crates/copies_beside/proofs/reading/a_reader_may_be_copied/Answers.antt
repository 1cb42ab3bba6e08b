use Rattle.std.proofs.Common.{arith}
use Rattle.copies_beside.proofs.Readers.{are_classes, is_read}
use Rattle.copies_beside.proofs.reading.a_reader_may_be_copied.Goals as goal

pub returns-clause-reads : goal.returns-clause-reads
returns-clause-reads g c = let v = g.D.Disk.view c.args.disk.now in λ h shown s m was reads.
    is_read v (g.met.D.Disk.content_left c.args.disk.now v.moment shown.tells (omega arith)) c.args.held.now h shown s m was reads

pub returns-clause-classes : goal.returns-clause-classes
returns-clause-classes g c = λ h shown. are_classes (g.D.Disk.view c.args.disk.now) c.args.held.now h shown
