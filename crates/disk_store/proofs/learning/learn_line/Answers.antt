use Rattle.std.proofs.Common.{Err, ap}
use Rattle.line_store.specs.Shelves.{seen_by}
use Rattle.disk_store.proofs.Reading.{reads-done, reads-no-memory, reads-fault}
use Rattle.disk_store.proofs.learning.learn_line.Goals as goal

pub returns-in-Err-clause-read : goal.returns-in-Err-clause-read
returns-in-Err-clause-read g c = reads-fault (g.D.Disk.view c.args.disk.now) (g.D.Disk.view c.line_seen.new.disk) c.args.held.now c.args.s.number c.in-Err.ensures.reads c.requires.seat c.in-Err.fault (λ is. c.in-Err.ensures.failed (ap Err is)) (λ h shown file slot is. c.in-Err.ensures.bad file slot (ap Err is) h shown)

pub returns-in-Ok-learn_line-clause-done : goal.returns-in-Ok-learn_line-clause-done
returns-in-Ok-learn_line-clause-done g c = λ is. record { image = c.in-Ok.image; learnt = c.in-Ok-learn_line.ensures.ok; seen = c.in-Ok.ensures.seen }

pub returns-in-Ok-learn_line-clause-knows : goal.returns-in-Ok-learn_line-clause-knows
returns-in-Ok-learn_line-clause-knows g c = λ h shown order agrees. c.in-Ok-learn_line.ensures.agrees (seen_by c.args.s.number h) agrees (c.in-Ok.ensures.seen h shown)

pub returns-in-Ok-learn_line-clause-read : goal.returns-in-Ok-learn_line-clause-read
returns-in-Ok-learn_line-clause-read g c = reads-done (g.D.Disk.view c.args.disk.now) (g.D.Disk.view c.line_seen.new.disk) c.args.held.now c.args.s.number c.in-Ok.ensures.reads

pub returns-in-Err-learn_line-clause-read : goal.returns-in-Err-learn_line-clause-read
returns-in-Err-learn_line-clause-read g c = reads-no-memory (g.D.Disk.view c.args.disk.now) (g.D.Disk.view c.line_seen.new.disk) c.args.held.now c.args.s.number c.in-Ok.ensures.reads
