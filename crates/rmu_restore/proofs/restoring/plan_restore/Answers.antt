use Rattle.std.proofs.Common.{rules, refl, sym, subst, arith}
use Rattle.rdb_outside.specs.Disk.{Image}
use Rattle.rdb_outside.specs.Runs.{then_reads}
use Rattle.line_opening.proofs.Passed.{image_same}
use Rattle.line_moves.proofs.Runs.{still_tells}
use Rattle.new_database.specs.Maker.{root_file}
use Rattle.root_file.specs.Root.{IsRoot}
use Rattle.stable_lines.specs.Journal.{IsJournalOf}
use Rattle.rmu_restore.specs.declared.restoring.Plan.{Plan}
use Rattle.rmu_restore.proofs.Planned.{is_planned}
use Rattle.rmu_restore.proofs.restoring.plan_restore.Goals as goal

pub returns-in_err-backup-clause-bad : goal.returns-in_err-backup-clause-bad
returns-in_err-backup-clause-bad g c = λ file slot is t classes head lines journal source. c.read_backup.ensures.bad file slot (search rules) t head lines source.backup

pub returns-in_err-old-clause-reads : goal.returns-in_err-old-clause-reads
returns-in_err-old-clause-reads g c = let v = g.D.Disk.view in then_reads (v c.args.disk.now) (v c.read_backup.new.disk) (v c.old_ceiling.new.disk) c.read_backup.ensures.reads c.old_ceiling.ensures.reads

pub returns-in_err-greatest-clause-reads : goal.returns-in_err-greatest-clause-reads
returns-in_err-greatest-clause-reads g c = let v = g.D.Disk.view in let old = v c.args.disk.now in let mid = v c.old_ceiling.new.disk in
    then_reads old mid (v c.greatest_of_groups.new.disk) (then_reads old (v c.read_backup.new.disk) mid c.read_backup.ensures.reads c.old_ceiling.ensures.reads) c.greatest_of_groups.ensures.reads

pub returns-in_err-greatest-clause-bad : goal.returns-in_err-greatest-clause-bad
returns-in_err-greatest-clause-bad g c = let v = g.D.Disk.view in let old = v c.args.disk.now in let mid = v c.old_ceiling.new.disk in
    let reads = then_reads old (v c.read_backup.new.disk) mid c.read_backup.ensures.reads c.old_ceiling.ensures.reads in
    λ file slot is t classes head lines journal source.
    c.greatest_of_groups.ensures.bad file slot (search rules) (still_tells old mid reads.told t) journal (subst (λ (m : Image). IsJournalOf m journal) (sym (image_same old mid reads t)) source.has_journal)

pub returns-clause-reads : goal.returns-clause-reads
returns-clause-reads g c = let v = g.D.Disk.view in let old = v c.args.disk.now in let mid = v c.old_ceiling.new.disk in
    then_reads old mid (v c.greatest_of_groups.new.disk) (then_reads old (v c.read_backup.new.disk) mid c.read_backup.ensures.reads c.old_ceiling.ensures.reads) c.greatest_of_groups.ensures.reads

pub returns-clause-planned : goal.returns-clause-planned
returns-clause-planned g c = let v = g.D.Disk.view in let old = v c.args.disk.now in let one = v c.read_backup.new.disk in let mid = v c.old_ceiling.new.disk in
    let reads = then_reads old one mid c.read_backup.ensures.reads c.old_ceiling.ensures.reads in
    λ t classes head lines journal source.
    let second = c.greater-ceiling.ensures.second in let first = c.greater-ceiling.ensures.first in let inner = c.greater.ensures.first in let last = c.greater.ensures.second in let ceiling = c.root_of.ensures.ceiling in
    let plan : Plan = record { root = c.root_of.result; lines = c.in_ok-backup.backup.head.lines } in
    is_planned old.content c.args.number classes head lines journal c.in_ok-backup.backup plan c.in_ok-old.old c.in_ok-greatest.greatest source (c.in_ok-backup.ensures.found t)
    (λ root is. c.in_ok-old.ensures.ceiling (still_tells old one c.read_backup.ensures.reads.told t) root (subst (λ (m : Image). IsRoot (m root_file 0) root) (sym (image_same old one c.read_backup.ensures.reads t)) is))
    (c.in_ok-greatest.ensures.greatest (still_tells old mid reads.told t) journal (subst (λ (m : Image). IsJournalOf m journal) (sym (image_same old mid reads t)) source.has_journal))
    c.root_of.ensures.state c.root_of.ensures.limits c.root_of.ensures.applied refl (record { drawn = omega (arith, first, ceiling); backup_is = omega (arith, second, inner, ceiling); groups_are = omega (arith, second, last, ceiling) })
