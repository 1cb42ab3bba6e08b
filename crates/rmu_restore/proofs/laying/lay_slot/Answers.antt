use Rattle.std.proofs.Common.{rules, ◌≤◌, ◌∷◌, ◌++◌, [], sym, subst}
use Rattle.rdb_outside.specs.Disk.{Image}
use Rattle.line_moves.proofs.Runs.{on_ok, still_tells}
use Rattle.line_opening.proofs.Passed.{image_same}
use Rattle.backup_file.specs.declared.line.BackupLine.{BackupLine}
use Rattle.backup_file.proofs.Readings.{one_line}
use Rattle.backup_making.specs.Making.{file_of}
use Rattle.guarded_lines.specs.Laying.{IsArea}
use Rattle.guarded_root.proofs.Sweeping.{read_run, run_on}
use Rattle.rmu_restore.specs.Laying.{HasLaid, MayJoin}
use Rattle.rmu_restore.proofs.Laid.{names_in, room, laid_more}
use Rattle.rmu_restore.proofs.laying.lay_slot.Goals as goal

pub returns-in_err-copy-clause-bad : goal.returns-in_err-copy-clause-bad
returns-in_err-copy-clause-bad g c = λ file at is t pages greatest lines line was may there. c.read_backup_line.ensures.bad file at (search rules) t line there

pub returns-in_err-copy-clause-runs : goal.returns-in_err-copy-clause-runs
returns-in_err-copy-clause-runs g c = let v = g.D.Disk.view in read_run IsArea (v c.args.disk.now) (v c.read_backup_line.new.disk) c.read_backup_line.ensures.reads

pub returns-in_default-clause-bad : goal.returns-in_default-clause-bad
returns-in_default-clause-bad g c = let old = g.D.Disk.view c.args.disk.now in λ file at is t pages greatest lines line was may there.
    let same = one_line (old.content (file_of c.args.number) c.args.slot) c.args.slot c.args.slot line c.in_ok-copy.copy there (c.in_ok-copy.ensures.found t) in
    let has = subst (λ (l : BackupLine). MayJoin pages lines l) same may in
    c.in_default.ensures.none _ (names_in pages c.in_ok-copy.copy has.page)

pub returns-in_default-clause-runs : goal.returns-in_default-clause-runs
returns-in_default-clause-runs g c = let v = g.D.Disk.view in read_run IsArea (v c.args.disk.now) (v c.read_backup_line.new.disk) c.read_backup_line.ensures.reads

pub lay_copy-requires : goal.lay_copy-requires
lay_copy-requires g c = record { place = c.in-Some.ensures.found; allowed = c.in_ok-copy.ensures.allowed }

pub returns-clause-bad : goal.returns-clause-bad
returns-clause-bad g c = let v = g.D.Disk.view in let old = v c.args.disk.now in let mid = v c.read_backup_line.new.disk in let copy = c.in_ok-copy.copy in
    λ file at is t pages greatest lines line was may there.
    let same = one_line (old.content (file_of c.args.number) c.args.slot) c.args.slot c.args.slot line copy there (c.in_ok-copy.ensures.found t) in
    let joins = subst (λ (l : BackupLine). MayJoin pages lines l) same may in
    let now = subst (λ (m : Image). HasLaid pages greatest lines m) (sym (image_same old mid c.read_backup_line.ensures.reads t)) was in
    c.lay_copy.ensures.bad file at is (still_tells old mid c.read_backup_line.ensures.reads.told t) pages now.well_formed (room pages greatest lines copy mid.content now joins)

pub returns-clause-laid : goal.returns-clause-laid
returns-clause-laid g c = let v = g.D.Disk.view in let old = v c.args.disk.now in let mid = v c.read_backup_line.new.disk in let new = v c.lay_copy.new.disk in let copy = c.in_ok-copy.copy in
    on_ok _ _ c.lay_copy.result (λ laid t pages greatest lines line was may few there.
    let same = one_line (old.content (file_of c.args.number) c.args.slot) c.args.slot c.args.slot line copy there (c.in_ok-copy.ensures.found t) in
    let joins = subst (λ (l : BackupLine). MayJoin pages lines l) same may in
    let now = subst (λ (m : Image). HasLaid pages greatest lines m) (sym (image_same old mid c.read_backup_line.ensures.reads t)) was in
    let lays = laid (still_tells old mid c.read_backup_line.ensures.reads.told t) pages now.well_formed joins.page.within (room pages greatest lines copy mid.content now joins) in
    let few_copy = subst (λ (l : BackupLine). l.tsn.number ≤ greatest) same few in
    subst (λ (l : BackupLine). HasLaid pages greatest (lines ++ l ∷ []) new.content) (sym same) (laid_more pages greatest lines copy mid.content now joins new.content lays few_copy)) c.lay_copy.ensures.laid

pub returns-clause-runs : goal.returns-clause-runs
returns-clause-runs g c = let v = g.D.Disk.view in let old = v c.args.disk.now in let mid = v c.read_backup_line.new.disk in
    run_on IsArea old mid (v c.lay_copy.new.disk) (read_run IsArea old mid c.read_backup_line.ensures.reads) c.lay_copy.ensures.runs
