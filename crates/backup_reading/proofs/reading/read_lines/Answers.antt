use Rattle.std.proofs.Common.{rules, ◌≡◌, ◌+◌, ℕ, IsTrue, sym, subst, arith}
use Rattle.rdb_outside.specs.Disk.{Image}
use Rattle.rdb_outside.specs.Runs.{no_calls, then_reads}
use Rattle.line_moves.proofs.Runs.{still_tells}
use Rattle.line_opening.proofs.Passed.{image_same}
use Rattle.backup_file.specs.Line.{IsBackupLine}
use Rattle.backup_making.specs.Making.{file_of}
use Rattle.backup_reading.proofs.ReadSoFar.{ReadsTo, reads_none, reads_more, reads_all, fit, line_there, goes_on}
use Rattle.backup_reading.proofs.reading.read_lines.Goals as goal

pub loop-index-init : goal.loop-index-init
loop-index-init g c = let old = g.D.Disk.view c.args.disk.now in
    record { reads = no_calls old; so_far = reads_none old.content (IsTrue old.tells) c.args.number c.args.head.limits.pages c.none_passed-passed.result (c.none_passed-passed.ensures.passed c.args.head.limits.pages); most = omega arith; few = let none = c.none_passed-passed.ensures.greatest in omega (arith, none) }

pub returns-in_err-line-clause-reads : goal.returns-in_err-line-clause-reads
returns-in_err-line-clause-reads g c = let v = g.D.Disk.view in then_reads (v c.args.disk.now) (v c.loop-index.disk) (v c.read_backup_line.new.disk) c.loop-index.invariant.reads c.read_backup_line.ensures.reads

pub returns-in_err-line-clause-bad : goal.returns-in_err-line-clause-bad
returns-in_err-line-clause-bad g c = let v = g.D.Disk.view in let old = v c.args.disk.now in let mid = v c.loop-index.disk in let reads = c.loop-index.invariant.reads in let index = c.loop-index.index in
    λ file at is t lines whole.
    line_there old.content c.args.number c.args.head c.args.head lines whole whole.stores.header index c.loop-index-test.true
    (λ line there. c.read_backup_line.ensures.bad file at (search rules) (still_tells old mid reads.told t) line (subst (λ (m : Image). IsBackupLine (m (file_of c.args.number) (index + 1)) (index + 1) line) (sym (image_same old mid reads t)) there))

pub returns-in-NoMemory-clause-reads : goal.returns-in-NoMemory-clause-reads
returns-in-NoMemory-clause-reads g c = let v = g.D.Disk.view in then_reads (v c.args.disk.now) (v c.loop-index.disk) (v c.read_backup_line.new.disk) c.loop-index.invariant.reads c.read_backup_line.ensures.reads

pub returns-in-Refused-clause-reads : goal.returns-in-Refused-clause-reads
returns-in-Refused-clause-reads g c = let v = g.D.Disk.view in then_reads (v c.args.disk.now) (v c.loop-index.disk) (v c.read_backup_line.new.disk) c.loop-index.invariant.reads c.read_backup_line.ensures.reads

pub returns-in-Refused-clause-bad : goal.returns-in-Refused-clause-bad
returns-in-Refused-clause-bad g c = let v = g.D.Disk.view in let old = v c.args.disk.now in let mid = v c.loop-index.disk in let so_far = c.loop-index.invariant in let index = c.loop-index.index in
    λ file at is t lines whole.
    let here = subst (λ (m : Image). IsBackupLine (m (file_of c.args.number) (index + 1)) (index + 1) c.in_ok-line.line) (image_same old mid so_far.reads t) (c.in_ok-line.ensures.found (still_tells old mid so_far.reads.told t)) in
    c.pass_line.ensures.refused c.in-Refused.is so_far.so_far.lines lines so_far.so_far.passed
    (goes_on old.content c.args.number c.args.head c.args.head lines whole whole.stores.header (IsTrue old.tells) c.args.head.limits.pages index c.loop-index.passed c.in_ok-line.line so_far.so_far t c.loop-index-test.true here)
    (fit old.content c.args.number c.args.head c.args.head lines whole whole.stores.header)

pub loop-index-preserved : goal.loop-index-preserved
loop-index-preserved g c = let v = g.D.Disk.view in let old = v c.args.disk.now in let mid = v c.loop-index.disk in let so_far = c.loop-index.invariant in let index = c.loop-index.index in
    record {
      reads = then_reads old mid (v c.read_backup_line.new.disk) so_far.reads c.read_backup_line.ensures.reads;
      so_far = reads_more old.content (IsTrue old.tells) c.args.number c.args.head.limits.pages index c.loop-index.passed c.pass_line.new.passed c.in_ok-line.line so_far.so_far
          (λ t. subst (λ (m : Image). IsBackupLine (m (file_of c.args.number) (index + 1)) (index + 1) c.in_ok-line.line) (image_same old mid so_far.reads t) (c.in_ok-line.ensures.found (still_tells old mid so_far.reads.told t)))
          (c.pass_line.ensures.goes c.in-Goes.is so_far.so_far.lines so_far.so_far.passed);
      most = let test = c.loop-index-test.true in omega (arith, test);
      few = c.pass_line.ensures.few c.in-Goes.is _ so_far.few c.in_ok-line.ensures.allowed.tsn;
    }

pub returns-clause-found : goal.returns-clause-found
returns-clause-found g c = let old = g.D.Disk.view c.args.disk.now in let so_far = c.loop-index.invariant in
    λ t.
    let past = c.loop-index-test.false in let most = so_far.most in
    let all : c.loop-index.index ≡ c.args.head.lines = omega (arith, past, most) in
    reads_all old.content (IsTrue old.tells) c.args.number c.args.head c.loop-index.passed (subst (λ (n : ℕ). ReadsTo old.content (IsTrue old.tells) c.args.number c.args.head.limits.pages n c.loop-index.passed) all so_far.so_far) t
