use Rattle.std.proofs.Common.{◌∙◌}
use Rattle.line_moves.proofs.Runs.{reads_once}
use Rattle.line_opening.proofs.Reading.{header_read, no_header_read}
use Rattle.line_opening.proofs.headers.named_by.Goals as goal

pub returns-in_err-read-clause-reads : goal.returns-in_err-read-clause-reads
returns-in_err-read-clause-reads g c = let v = g.D.Disk.view in reads_once (v c.args.disk.now) (v c.read.new.self) c.read.result c.read.ensures.counts c.read.ensures.kept

pub returns-in-Ok-clause-reads : goal.returns-in-Ok-clause-reads
returns-in-Ok-clause-reads g c = let v = g.D.Disk.view in reads_once (v c.args.disk.now) (v c.read.new.self) c.read.result c.read.ensures.counts c.read.ensures.kept

pub returns-in-Err-clause-reads : goal.returns-in-Err-clause-reads
returns-in-Err-clause-reads g c = let v = g.D.Disk.view in reads_once (v c.args.disk.now) (v c.read.new.self) c.read.result c.read.ensures.counts c.read.ensures.kept

pub returns-in-Ok-clause-names : goal.returns-in-Ok-clause-names
returns-in-Ok-clause-names g c = let old = g.D.Disk.view c.args.disk.now in λ t.
    c.number_of.ensures ∙ header_read old.content c.ruj_file-journal.result c.args.member c.read.new.into c.in-Ok.found c.ruj_file-journal.ensures (c.in_ok-read.ensures.bytes t) c.in-Ok.ensures.found

pub returns-in-Err-clause-bad : goal.returns-in-Err-clause-bad
returns-in-Err-clause-bad g c = let old = g.D.Disk.view c.args.disk.now in λ file slot is t.
    no_header_read old.content c.ruj_file-journal.result c.args.member c.read.new.into c.ruj_file-journal.ensures (c.in_ok-read.ensures.bytes t) c.in-Err.ensures.none
