use Rattle.std.proofs.Common.{rules, ◌≡◌, ◌∙◌, ◌+◌, ◌<◌, ℕ, List, slice_get, ap, sym, subst, arith}
use Rattle.rdb_types.specs.declared.file.FileKind.TheVariants.{Area, Backup}
use Rattle.line_moves.proofs.Runs.{still_tells}
use Rattle.backup_file.specs.Line.{IsBackupLine}
use Rattle.backup_making.specs.Making.{file_of}
use Rattle.guarded_lines.specs.Laying.{IsArea}
use Rattle.guarded_root.proofs.Sweeping.{no_run, run_on}
use Rattle.rmu_restore.proofs.Fronts.{laid_none, next_line, next_at, joins, laid_next, laid_all}
use Rattle.rmu_restore.proofs.laying.lay_all.Goals as goal

backup_not : (number : ℕ) → IsArea (file_of number) → ⊥
backup_not number is = let bad : Backup ≡ Area = is in cc

pub loop-index-init : goal.loop-index-init
loop-index-init g c = let old = g.D.Disk.view c.args.disk.now in
    record { runs = no_run IsArea old; laid = λ t greatest head lines is same few blank. laid_none head.limits.pages greatest lines old.content blank }

pub returns-in_err-lay_slot-clause-bad : goal.returns-in_err-lay_slot-clause-bad
returns-in_err-lay_slot-clause-bad g c = let v = g.D.Disk.view in let old = v c.args.disk.now in let mid = v c.loop-index.disk in let so_far = c.loop-index.invariant in
    λ file at bad t greatest head lines is same few blank.
    let was = so_far.laid t greatest head lines is same few blank in
    let index = c.loop-index.index in let test : index < c.args.count = c.loop-index-test.true in let count = is.stores.count in let long = was.long in
    let next = next_line lines was.front was.rest was.split (omega (arith, test, same, count, long)) in
    let got = ap (λ (n : ℕ). slice_get lines n) (sym was.long) ∙ next_at lines was.front was.rest was.split next in
    let here = subst (λ (b : List ℕ). IsBackupLine b (index + 1) next.line) (sym ((so_far.runs.others t (file_of c.args.number) (backup_not c.args.number)).content (index + 1))) (is.stores.each index next.line got) in
    c.lay_slot.ensures.bad file at (search rules) (still_tells old mid so_far.runs.told t) head.limits.pages greatest was.front next.line was.laid (joins lines was.front was.rest was.split next old.content c.args.number head is) here

pub returns-in_err-lay_slot-clause-runs : goal.returns-in_err-lay_slot-clause-runs
returns-in_err-lay_slot-clause-runs g c = let v = g.D.Disk.view in run_on IsArea (v c.args.disk.now) (v c.loop-index.disk) (v c.lay_slot.new.disk) c.loop-index.invariant.runs c.lay_slot.ensures.runs

pub loop-index-preserved : goal.loop-index-preserved
loop-index-preserved g c = let v = g.D.Disk.view in let old = v c.args.disk.now in let mid = v c.loop-index.disk in let new = v c.lay_slot.new.disk in let so_far = c.loop-index.invariant in
    record {
      runs = run_on IsArea old mid new so_far.runs c.lay_slot.ensures.runs;
      laid = λ t greatest head lines is same few blank.
          let was = so_far.laid t greatest head lines is same few blank in
          let index = c.loop-index.index in let test : index < c.args.count = c.loop-index-test.true in let count = is.stores.count in let long = was.long in
          let next = next_line lines was.front was.rest was.split (omega (arith, test, same, count, long)) in
          let got = ap (λ (n : ℕ). slice_get lines n) (sym was.long) ∙ next_at lines was.front was.rest was.split next in
          let here = subst (λ (b : List ℕ). IsBackupLine b (index + 1) next.line) (sym ((so_far.runs.others t (file_of c.args.number) (backup_not c.args.number)).content (index + 1))) (is.stores.each index next.line got) in
          let laid = c.in_ok-lay_slot.ensures.laid (still_tells old mid so_far.runs.told t) head.limits.pages greatest was.front next.line was.laid (joins lines was.front was.rest was.split next old.content c.args.number head is) (few index next.line got) here in
          laid_next lines was.front was.rest was.split next head.limits.pages greatest index new.content was.long laid;
    }

pub returns-clause-laid : goal.returns-clause-laid
returns-clause-laid g c = let v = g.D.Disk.view in let mid = v c.loop-index.disk in
    λ t greatest head lines is same few blank.
    let count = is.stores.count in let past = c.loop-index-test.false in
    laid_all head.limits.pages greatest c.loop-index.index lines mid.content (omega (arith, past, same, count)) (c.loop-index.invariant.laid t greatest head lines is same few blank)
