use Rattle.std.proofs.Common.{sym}
use Rattle.rdb_outside.specs.Runs.{then_reads}
use Rattle.stable_lines.specs.Slots.{line_at}
use Rattle.line_moves.proofs.Runs.{still_tells}
use Rattle.disk_versions.proofs.Moves.{right_still, kept_by_reads}
use Rattle.version_writing.proofs.reading.line_for_reader.Goals as goal

pub returns-in_err-seen-clause-reads : goal.returns-in_err-seen-clause-reads
returns-in_err-seen-clause-reads g c = let v = g.D.Disk.view in then_reads (v c.args.disk.now) (v c.line_at.new.disk) (v c.reader_version.new.disk) c.line_at.ensures.reads c.reader_version.ensures.reads

pub returns-clause-reads : goal.returns-clause-reads
returns-clause-reads g c = let v = g.D.Disk.view in then_reads (v c.args.disk.now) (v c.line_at.new.disk) (v c.reader_version.new.disk) c.line_at.ensures.reads c.reader_version.ensures.reads

pub returns-clause-committed : goal.returns-clause-committed
returns-clause-committed g c = let v = g.D.Disk.view in let old = v c.args.disk.now in let mid = v c.line_at.new.disk in
    λ t now course session reading was is start.
    c.in_ok-seen.ensures.committed (still_tells old mid c.line_at.ensures.reads.told t) (line_at old.content) course session reading
    (right_still old.content mid.content course (kept_by_reads old mid course.followed t c.line_at.ensures.reads) (line_at old.content) was.right) was.within is start (sym (c.in_ok-line.ensures.line t))
