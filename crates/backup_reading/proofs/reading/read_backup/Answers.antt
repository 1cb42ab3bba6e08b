use Rattle.std.proofs.Common.{rules, sym, subst}
use Rattle.rdb_outside.specs.Disk.{Image}
use Rattle.rdb_outside.specs.Runs.{then_reads}
use Rattle.line_moves.proofs.Runs.{still_tells}
use Rattle.line_opening.proofs.Passed.{image_same}
use Rattle.backup_file.specs.declared.header.BackupHead.{BackupHead}
use Rattle.backup_reading.specs.Reading.{IsBackupOf, ReadsLines}
use Rattle.backup_reading.proofs.ReadSoFar.{is_read, its_head}
use Rattle.backup_reading.proofs.reading.read_backup.Goals as goal

pub returns-in_err-head-clause-bad : goal.returns-in_err-head-clause-bad
returns-in_err-head-clause-bad g c = λ file at is t head lines whole. c.read_head.ensures.bad file at (search rules) t head lines whole

pub returns-in_err-greatest-clause-bad : goal.returns-in_err-greatest-clause-bad
returns-in_err-greatest-clause-bad g c = let v = g.D.Disk.view in let old = v c.args.disk.now in let mid = v c.read_head.new.disk in let reads = c.read_head.ensures.reads in
    λ file at is t head lines whole.
    let same = its_head old.content c.args.number c.in_ok-head.head head lines whole (c.in_ok-head.ensures.found t) in
    let its = subst (λ (h : BackupHead). IsBackupOf old.content c.args.number h lines) same whole in
    c.read_lines.ensures.bad file at (search rules) (still_tells old mid reads.told t) lines (subst (λ (m : Image). IsBackupOf m c.args.number c.in_ok-head.head lines) (sym (image_same old mid reads t)) its)

pub returns-in_err-greatest-clause-reads : goal.returns-in_err-greatest-clause-reads
returns-in_err-greatest-clause-reads g c = let v = g.D.Disk.view in then_reads (v c.args.disk.now) (v c.read_head.new.disk) (v c.read_lines.new.disk) c.read_head.ensures.reads c.read_lines.ensures.reads

pub returns-clause-reads : goal.returns-clause-reads
returns-clause-reads g c = let v = g.D.Disk.view in then_reads (v c.args.disk.now) (v c.read_head.new.disk) (v c.read_lines.new.disk) c.read_head.ensures.reads c.read_lines.ensures.reads

pub returns-clause-found : goal.returns-clause-found
returns-clause-found g c = let v = g.D.Disk.view in let old = v c.args.disk.now in let mid = v c.read_head.new.disk in let reads = c.read_head.ensures.reads in
    λ t.
    let lines = subst (λ (m : Image). ReadsLines m c.args.number c.in_ok-head.head c.in_ok-greatest.greatest) (image_same old mid reads t) (c.in_ok-greatest.ensures.found (still_tells old mid reads.told t)) in
    is_read old.content c.args.number (record { head = c.in_ok-head.head; greatest = c.in_ok-greatest.greatest }) (c.in_ok-head.ensures.found t) c.in_ok-head.ensures.format c.in_ok-head.ensures.limits lines
