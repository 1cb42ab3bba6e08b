use Rattle.std.proofs.Common.{rules, ◌∙◌, ℕ, Err, is_err, [], inl, inr, refl, sym, ap, subst, arith}
use Rattle.std.proofs.lemmas.Result.{err_from_is_err_and}
use Rattle.root_file.specs.declared.Root.{Root}
use Rattle.root_file.proofs.Readings.{one_root}
use Rattle.new_database.specs.Maker.{root_file}
use Rattle.rdb_outside.specs.Disk.{Image}
use Rattle.rdb_outside.specs.Runs.{then_reads}
use Rattle.line_moves.proofs.Runs.{on_ok, still_tells}
use Rattle.line_opening.proofs.Counted.{if_ok}
use Rattle.line_opening.proofs.Passed.{image_same}
use Rattle.database_opening.proofs.Others.{file_read, file_on}
use Rattle.fitted_groups.proofs.of_laid_groups.Faults.{err_same}
use Rattle.rolled_lines.specs.Journals.{follow}
use Rattle.fitted_groups.specs.Meeting.{TakesFirst, FitPages}
use Rattle.rmu_recover.specs.Recovering.{HasGroups}
use Rattle.rmu_recover.proofs.Faults.{call_no_gap, call_no_unfit, call_failed}
use Rattle.rmu_recover.proofs.Course.{to_roll_read, within_reads, within_behind}
use Rattle.rmu_recover.proofs.Roots.{its_root, has_root, not_used, to_roll_code, source_code, rolled_code, within_code}
use Rattle.rmu_recover.proofs.recovering.recover.Goals as goal

pub returns-in_err-root-clause-gap : goal.returns-in_err-root-clause-gap
returns-in_err-root-clause-gap g c = λ number is t former root forward journals to_roll stand.
    let p = err_from_is_err_and c.from_residual.result c.from_residual.ensures.1 in
    absurd (call_no_gap c.in_err-root.field-0.0 number (sym p.2 ∙ err_same _ _ (sym p.1 ∙ is)))

pub returns-in_err-root-clause-bad : goal.returns-in_err-root-clause-bad
returns-in_err-root-clause-bad g c = let old = g.D.Disk.view c.args.disk.now in
    λ file slot is t former root forward journals groups aij to_roll source takes.
    let left = g.met.D.Disk.content_left c.args.disk.now old.moment t (omega arith) in
    let has = has_root former root forward old to_roll left in
    c.standing_root.ensures.bad file slot (search rules) t has.0 has.1

pub returns-in_err-root-clause-within : goal.returns-in_err-root-clause-within
returns-in_err-root-clause-within g c = let v = g.D.Disk.view in let old = v c.args.disk.now in let first = v c.standing_root.new.disk in let reads = c.standing_root.ensures.reads in let copies = c.args.copies.now in
    λ t former root forward journals groups aij classes to_roll source takes sound. within_reads former root forward groups aij classes old first reads t

pub returns-in_err-root-clause-others : goal.returns-in_err-root-clause-others
returns-in_err-root-clause-others g c = let v = g.D.Disk.view in let old = v c.args.disk.now in let first = v c.standing_root.new.disk in let reads = c.standing_root.ensures.reads in let copies = c.args.copies.now in
    λ t file other. file_read old first reads t file

pub returns-clause-gap : goal.returns-clause-gap
returns-clause-gap g c = let v = g.D.Disk.view in let old = v c.args.disk.now in let first = v c.standing_root.new.disk in let reads = c.standing_root.ensures.reads in let copies = c.args.copies.now in
    λ number is t former root forward journals to_roll stand.
    let left = g.met.D.Disk.content_left c.args.disk.now old.moment t (omega arith) in
    let its = its_root former root forward old to_roll left c.in_ok-root.root (c.in_ok-root.ensures.stands t) in
    let told = still_tells old first reads.told t in
    let to_roll_first = to_roll_read former c.in_ok-root.root forward [] (record { first = 0; groups = [] }) (λ (n : ℕ). n) old first reads t (to_roll_code former root forward its.0 copies journals [] (record { first = 0; groups = [] }) c.in_ok-root.root its.1 old to_roll) in
    ap (λ (r : Root). follow r.applied journals) (sym its.1) ∙ c.roll.ensures.gap number is told former forward journals to_roll_first stand

pub returns-clause-nothing : goal.returns-clause-nothing
returns-clause-nothing g c = let v = g.D.Disk.view in let old = v c.args.disk.now in let first = v c.standing_root.new.disk in let reads = c.standing_root.ensures.reads in let copies = c.args.copies.now in
    λ number is. then_reads old first (v c.roll.new.disk) reads (c.roll.ensures.nothing number is)

pub returns-clause-bad : goal.returns-clause-bad
returns-clause-bad g c = let v = g.D.Disk.view in let old = v c.args.disk.now in let first = v c.standing_root.new.disk in let reads = c.standing_root.ensures.reads in let copies = c.args.copies.now in
    λ file slot is t former root forward journals groups aij to_roll source takes.
    let left = g.met.D.Disk.content_left c.args.disk.now old.moment t (omega arith) in
    let its = its_root former root forward old to_roll left c.in_ok-root.root (c.in_ok-root.ensures.stands t) in
    let told = still_tells old first reads.told t in
    let to_roll_first = to_roll_read former c.in_ok-root.root forward groups aij (λ (n : ℕ). n) old first reads t (to_roll_code former root forward its.0 copies journals groups aij c.in_ok-root.root its.1 old to_roll) in
    let takes_now = subst (λ (m : Image). TakesFirst m forward groups) (sym (image_same old first reads t)) takes in
    let source_now = source_code former root forward its.0 copies journals groups aij c.in_ok-root.root its.1 source in
    c.roll.ensures.bad file slot is told former forward journals groups aij to_roll_first source_now takes_now

pub returns-clause-count : goal.returns-clause-count
returns-clause-count g c = let v = g.D.Disk.view in let old = v c.args.disk.now in let first = v c.standing_root.new.disk in let reads = c.standing_root.ensures.reads in let copies = c.args.copies.now in
    if_ok _ _ c.roll.result (λ count is t former root forward journals groups aij to_roll source.
    let left = g.met.D.Disk.content_left c.args.disk.now old.moment t (omega arith) in
    let its = its_root former root forward old to_roll left c.in_ok-root.root (c.in_ok-root.ensures.stands t) in
    let told = still_tells old first reads.told t in
    let to_roll_first = to_roll_read former c.in_ok-root.root forward groups aij (λ (n : ℕ). n) old first reads t (to_roll_code former root forward its.0 copies journals groups aij c.in_ok-root.root its.1 old to_roll) in
    let source_now = source_code former root forward its.0 copies journals groups aij c.in_ok-root.root its.1 source in
    is told former forward journals groups aij to_roll_first source_now) c.roll.ensures.count

pub returns-clause-rolled : goal.returns-clause-rolled
returns-clause-rolled g c = let v = g.D.Disk.view in let old = v c.args.disk.now in let first = v c.standing_root.new.disk in let reads = c.standing_root.ensures.reads in let copies = c.args.copies.now in
    on_ok _ _ c.roll.result (λ is t former root forward journals groups aij classes to_roll source takes sound image now.
    let left = g.met.D.Disk.content_left c.args.disk.now old.moment t (omega arith) in
    let its = its_root former root forward old to_roll left c.in_ok-root.root (c.in_ok-root.ensures.stands t) in
    let told = still_tells old first reads.told t in
    let to_roll_first = to_roll_read former c.in_ok-root.root forward groups aij (λ (n : ℕ). n) old first reads t (to_roll_code former root forward its.0 copies journals groups aij c.in_ok-root.root its.1 old to_roll) in
    let takes_now = subst (λ (m : Image). TakesFirst m forward groups) (sym (image_same old first reads t)) takes in
    let source_now = source_code former root forward its.0 copies journals groups aij c.in_ok-root.root its.1 source in
    rolled_code former root forward its.0 copies journals groups aij c.in_ok-root.root its.1 classes image (is told former forward journals groups aij classes to_roll_first source_now takes_now sound image now)) c.roll.ensures.rolled

pub returns-clause-within : goal.returns-clause-within
returns-clause-within g c = let v = g.D.Disk.view in let old = v c.args.disk.now in let first = v c.standing_root.new.disk in let reads = c.standing_root.ensures.reads in let copies = c.args.copies.now in
    λ t former root forward journals groups aij classes to_roll source takes sound.
    let left = g.met.D.Disk.content_left c.args.disk.now old.moment t (omega arith) in
    let its = its_root former root forward old to_roll left c.in_ok-root.root (c.in_ok-root.ensures.stands t) in
    let told = still_tells old first reads.told t in
    let to_roll_first = to_roll_read former c.in_ok-root.root forward groups aij (λ (n : ℕ). n) old first reads t (to_roll_code former root forward its.0 copies journals groups aij c.in_ok-root.root its.1 old to_roll) in
    let takes_now = subst (λ (m : Image). TakesFirst m forward groups) (sym (image_same old first reads t)) takes in
    let source_now = source_code former root forward its.0 copies journals groups aij c.in_ok-root.root its.1 source in
    within_code former root forward its.0 copies journals groups aij c.in_ok-root.root its.1 classes old (v c.roll.new.disk)
    (within_behind former c.in_ok-root.root forward groups aij classes old first reads t (v c.roll.new.disk) (c.roll.ensures.within told former forward journals groups aij classes to_roll_first source_now takes_now sound))

pub returns-clause-others : goal.returns-clause-others
returns-clause-others g c = let v = g.D.Disk.view in let old = v c.args.disk.now in let first = v c.standing_root.new.disk in let reads = c.standing_root.ensures.reads in let copies = c.args.copies.now in
    λ t file other. file_on old first (v c.roll.new.disk) file (file_read old first reads t file) (c.roll.ensures.others (still_tells old first reads.told t) file other)

pub returns-then-root-eq1-clause-within : goal.returns-then-root-eq1-clause-within
returns-then-root-eq1-clause-within g c = let v = g.D.Disk.view in let old = v c.args.disk.now in let first = v c.standing_root.new.disk in let reads = c.standing_root.ensures.reads in let copies = c.args.copies.now in
    λ t former root forward journals groups aij classes to_roll source takes sound. within_reads former root forward groups aij classes old first reads t

pub returns-then-root-eq1-clause-others : goal.returns-then-root-eq1-clause-others
returns-then-root-eq1-clause-others g c = let v = g.D.Disk.view in let old = v c.args.disk.now in let first = v c.standing_root.new.disk in let reads = c.standing_root.ensures.reads in let copies = c.args.copies.now in
    λ t file other. file_read old first reads t file

pub returns-then-root-eq2-clause-within : goal.returns-then-root-eq2-clause-within
returns-then-root-eq2-clause-within g c = let v = g.D.Disk.view in let old = v c.args.disk.now in let first = v c.standing_root.new.disk in let reads = c.standing_root.ensures.reads in let copies = c.args.copies.now in
    λ t former root forward journals groups aij classes to_roll source takes sound. within_reads former root forward groups aij classes old first reads t

pub returns-then-root-eq2-clause-others : goal.returns-then-root-eq2-clause-others
returns-then-root-eq2-clause-others g c = let v = g.D.Disk.view in let old = v c.args.disk.now in let first = v c.standing_root.new.disk in let reads = c.standing_root.ensures.reads in let copies = c.args.copies.now in
    λ t file other. file_read old first reads t file

pub returns-then-root-eq1-clause-count : goal.returns-then-root-eq1-clause-count
returns-then-root-eq1-clause-count g c = let old = g.D.Disk.view c.args.disk.now in
    λ t former root forward journals groups aij to_roll source.
    let left = g.met.D.Disk.content_left c.args.disk.now old.moment t (omega arith) in
    let its = its_root former root forward old to_roll left c.in_ok-root.root (c.in_ok-root.ensures.stands t) in
    absurd (not_used c.in_ok-root.root root its.0 its.1 its.2 (inl c.if-root-eq1.true))

pub returns-then-root-eq1-clause-rolled : goal.returns-then-root-eq1-clause-rolled
returns-then-root-eq1-clause-rolled g c = let old = g.D.Disk.view c.args.disk.now in
    λ t former root forward journals groups aij classes to_roll source takes sound image now.
    let left = g.met.D.Disk.content_left c.args.disk.now old.moment t (omega arith) in
    let its = its_root former root forward old to_roll left c.in_ok-root.root (c.in_ok-root.ensures.stands t) in
    absurd (not_used c.in_ok-root.root root its.0 its.1 its.2 (inl c.if-root-eq1.true))

pub returns-then-root-eq2-clause-bad : goal.returns-then-root-eq2-clause-bad
returns-then-root-eq2-clause-bad g c = let old = g.D.Disk.view c.args.disk.now in
    λ file slot is t former root forward journals groups aij to_roll source takes.
    let left = g.met.D.Disk.content_left c.args.disk.now old.moment t (omega arith) in
    let its = its_root former root forward old to_roll left c.in_ok-root.root (c.in_ok-root.ensures.stands t) in
    not_used c.in_ok-root.root root its.0 its.1 its.2 (inr c.if-root-eq2.true)

pub returns-clause-in_use : goal.returns-clause-in_use
returns-clause-in_use g c = let old = g.D.Disk.view c.args.disk.now in
    λ t root is used.
    let same = one_root (old.content root_file 0) c.in_ok-root.root root (c.in_ok-root.ensures.stands t) is in
    absurd (c.if-root-eq1.false (ap (λ (r : Root). r.state) same ∙ used))

pub returns-in_err-root-clause-missing : goal.returns-in_err-root-clause-missing
returns-in_err-root-clause-missing g c = λ t former root forward journals number to_roll stand gap.
    let p = err_from_is_err_and c.from_residual.result c.from_residual.ensures.1 in
    (ap is_err p.1, c.standing_root.ensures.reads)

pub returns-in_err-root-clause-idle : goal.returns-in_err-root-clause-idle
returns-in_err-root-clause-idle g c = λ t root is used.
    let p = err_from_is_err_and c.from_residual.result c.from_residual.ensures.1 in
    inr (p.1 ∙ ap Err (p.2 ∙ call_failed c.in_err-root.field-0.0 (λ file slot bad. c.standing_root.ensures.bad file slot (search rules) t root is)))

pub returns-then-root-eq1-clause-missing : goal.returns-then-root-eq1-clause-missing
returns-then-root-eq1-clause-missing g c = let old = g.D.Disk.view c.args.disk.now in
    λ t former root forward journals number to_roll stand gap.
    let left = g.met.D.Disk.content_left c.args.disk.now old.moment t (omega arith) in
    let its = its_root former root forward old to_roll left c.in_ok-root.root (c.in_ok-root.ensures.stands t) in
    absurd (not_used c.in_ok-root.root root its.0 its.1 its.2 (inl c.if-root-eq1.true))

pub returns-then-root-eq2-clause-missing : goal.returns-then-root-eq2-clause-missing
returns-then-root-eq2-clause-missing g c = λ t former root forward journals number to_roll stand gap. (refl, c.standing_root.ensures.reads)

pub returns-then-root-eq1-clause-idle : goal.returns-then-root-eq1-clause-idle
returns-then-root-eq1-clause-idle g c = λ t root is used. inl refl

pub returns-then-root-eq2-clause-idle : goal.returns-then-root-eq2-clause-idle
returns-then-root-eq2-clause-idle g c = let old = g.D.Disk.view c.args.disk.now in
    λ t root is used.
    let same = one_root (old.content root_file 0) c.in_ok-root.root root (c.in_ok-root.ensures.stands t) is in
    absurd (c.if-root-eq1.false (ap (λ (r : Root). r.state) same ∙ used))

pub returns-clause-missing : goal.returns-clause-missing
returns-clause-missing g c = let v = g.D.Disk.view in let old = v c.args.disk.now in let first = v c.standing_root.new.disk in let reads = c.standing_root.ensures.reads in let copies = c.args.copies.now in
    λ t former root forward journals number to_roll stand gap.
    let left = g.met.D.Disk.content_left c.args.disk.now old.moment t (omega arith) in
    let its = its_root former root forward old to_roll left c.in_ok-root.root (c.in_ok-root.ensures.stands t) in
    let told = still_tells old first reads.told t in
    let to_roll_first = to_roll_read former c.in_ok-root.root forward [] (record { first = 0; groups = [] }) (λ (n : ℕ). n) old first reads t (to_roll_code former root forward its.0 copies journals [] (record { first = 0; groups = [] }) c.in_ok-root.root its.1 old to_roll) in
    let missing = c.roll.ensures.missing told former forward journals number to_roll_first stand (ap (λ (r : Root). follow r.applied journals) its.1 ∙ gap) in
    (missing.0, then_reads old first (v c.roll.new.disk) reads missing.1)

pub returns-clause-idle : goal.returns-clause-idle
returns-clause-idle g c = let old = g.D.Disk.view c.args.disk.now in
    λ t root is used.
    let same = one_root (old.content root_file 0) c.in_ok-root.root root (c.in_ok-root.ensures.stands t) is in
    absurd (c.if-root-eq1.false (ap (λ (r : Root). r.state) same ∙ used))

-- ---- groups that don't fit

pub returns-in_err-root-clause-unfit : goal.returns-in_err-root-clause-unfit
returns-in_err-root-clause-unfit g c = λ key is t former root forward journals groups to_roll has fit.
    let p = err_from_is_err_and c.from_residual.result c.from_residual.ensures.1 in
    call_no_unfit c.in_err-root.field-0.0 key (sym p.2 ∙ err_same _ _ (sym p.1 ∙ is))

pub returns-in_err-root-clause-unfitting : goal.returns-in_err-root-clause-unfitting
returns-in_err-root-clause-unfitting g c = λ t former root forward journals groups to_roll has unfit.
    let p = err_from_is_err_and c.from_residual.result c.from_residual.ensures.1 in
    (ap is_err p.1, c.standing_root.ensures.reads)

pub returns-then-root-eq1-clause-unfitting : goal.returns-then-root-eq1-clause-unfitting
returns-then-root-eq1-clause-unfitting g c = let old = g.D.Disk.view c.args.disk.now in
    λ t former root forward journals groups to_roll has unfit.
    let left = g.met.D.Disk.content_left c.args.disk.now old.moment t (omega arith) in
    let its = its_root former root forward old to_roll left c.in_ok-root.root (c.in_ok-root.ensures.stands t) in
    absurd (not_used c.in_ok-root.root root its.0 its.1 its.2 (inl c.if-root-eq1.true))

pub returns-then-root-eq2-clause-unfitting : goal.returns-then-root-eq2-clause-unfitting
returns-then-root-eq2-clause-unfitting g c = λ t former root forward journals groups to_roll has unfit. (refl, c.standing_root.ensures.reads)

pub returns-clause-unfit : goal.returns-clause-unfit
returns-clause-unfit g c = let v = g.D.Disk.view in let old = v c.args.disk.now in let first = v c.standing_root.new.disk in let reads = c.standing_root.ensures.reads in let copies = c.args.copies.now in
    λ key is t former root forward journals groups to_roll has fit.
    let left = g.met.D.Disk.content_left c.args.disk.now old.moment t (omega arith) in
    let its = its_root former root forward old to_roll left c.in_ok-root.root (c.in_ok-root.ensures.stands t) in
    let told = still_tells old first reads.told t in
    let to_roll_first = to_roll_read former c.in_ok-root.root forward [] (record { first = 0; groups = [] }) (λ (n : ℕ). n) old first reads t (to_roll_code former root forward its.0 copies journals [] (record { first = 0; groups = [] }) c.in_ok-root.root its.1 old to_roll) in
    let has_now : HasGroups former copies c.in_ok-root.root journals groups = record { journals_stand = has.journals_stand; follows = ap (λ (r : Root). follow r.applied journals) its.1 ∙ has.follows } in
    c.roll.ensures.unfit key is told former forward journals groups to_roll_first has_now
    (subst (λ (r : Root). FitPages first.content r.limits.pages groups) (sym its.1) (subst (λ (m : Image). FitPages m root.limits.pages groups) (sym (image_same old first reads t)) fit))

pub returns-clause-untouched : goal.returns-clause-untouched
returns-clause-untouched g c = let v = g.D.Disk.view in λ key is. then_reads (v c.args.disk.now) (v c.standing_root.new.disk) (v c.roll.new.disk) c.standing_root.ensures.reads (c.roll.ensures.untouched key is)

pub returns-clause-unfitting : goal.returns-clause-unfitting
returns-clause-unfitting g c = let v = g.D.Disk.view in let old = v c.args.disk.now in let first = v c.standing_root.new.disk in let reads = c.standing_root.ensures.reads in let copies = c.args.copies.now in
    λ t former root forward journals groups to_roll has unfit.
    let left = g.met.D.Disk.content_left c.args.disk.now old.moment t (omega arith) in
    let its = its_root former root forward old to_roll left c.in_ok-root.root (c.in_ok-root.ensures.stands t) in
    let told = still_tells old first reads.told t in
    let to_roll_first = to_roll_read former c.in_ok-root.root forward [] (record { first = 0; groups = [] }) (λ (n : ℕ). n) old first reads t (to_roll_code former root forward its.0 copies journals [] (record { first = 0; groups = [] }) c.in_ok-root.root its.1 old to_roll) in
    let has_now : HasGroups former copies c.in_ok-root.root journals groups = record { journals_stand = has.journals_stand; follows = ap (λ (r : Root). follow r.applied journals) its.1 ∙ has.follows } in
    let unfit_now = λ (fit : FitPages first.content c.in_ok-root.root.limits.pages groups). unfit (subst (λ (m : Image). FitPages m root.limits.pages groups) (image_same old first reads t) (subst (λ (r : Root). FitPages first.content r.limits.pages groups) its.1 fit)) in
    let refused = c.roll.ensures.unfitting told former forward journals groups to_roll_first has_now unfit_now in
    (refused.0, then_reads old first (v c.roll.new.disk) reads refused.1)
