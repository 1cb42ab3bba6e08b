use Rattle.std.proofs.Common.{rules, ◌∙◌, ℕ, is_err, sym, ap, subst, refl, arith}
use Rattle.std.proofs.lemmas.Result.{err_from_is_err_and}
use Rattle.rdb_outside.specs.Disk.{Image}
use Rattle.rdb_outside.specs.Runs.{then_reads}
use Rattle.line_moves.proofs.Runs.{still_tells}
use Rattle.line_opening.proofs.Passed.{image_same}
use Rattle.database_opening.proofs.Others.{file_read, file_on}
use Rattle.fitted_groups.proofs.of_laid_groups.Faults.{err_same}
use Rattle.fitted_groups.specs.Meeting.{FitPages}
use Rattle.rmu_recover.specs.Journals.{files_of, AreJournalsIn}
use Rattle.rmu_recover.proofs.Faults.{laying_no_gap, laying_no_unfit}
use Rattle.rmu_recover.proofs.Course.{fits_all, content_stands, journals_now, to_roll_read, within_reads, within_behind}
use Rattle.rmu_recover.proofs.Roots.{top_is, count_is, no_pass}
use Rattle.rmu_recover.proofs.recovering.roll.Goals as goal

pub pass_all-requires : goal.pass_all-requires
pass_all-requires g c = let few = c.requires.allowed.applied in record { last = omega (arith, few); ceiling = c.requires.allowed.ceiling.1 }

pub returns-in_err-reached-clause-gap : goal.returns-in_err-reached-clause-gap
returns-in_err-reached-clause-gap g c = let v = g.D.Disk.view in let old = v c.args.disk.now in let mid = v c.pass_all.new.disk in let reads = c.pass_all.ensures.reads in let root = c.args.root in let copies = c.args.copies.now in
    λ number is t former forward journals to_roll stand.
    let left = g.met.D.Disk.content_left c.args.disk.now old.moment t (omega arith) in
    let there = journals_now former c.args.root forward copies journals old.content (content_stands former c.args.root forward old to_roll left) stand in
    c.pass_all.ensures.gap number (search rules) t journals there

pub returns-in_err-reached-clause-bad : goal.returns-in_err-reached-clause-bad
returns-in_err-reached-clause-bad g c = let v = g.D.Disk.view in let old = v c.args.disk.now in let mid = v c.pass_all.new.disk in let reads = c.pass_all.ensures.reads in let root = c.args.root in let copies = c.args.copies.now in
    λ file slot is t former forward journals groups aij to_roll source takes.
    let left = g.met.D.Disk.content_left c.args.disk.now old.moment t (omega arith) in
    let there = journals_now former c.args.root forward copies journals old.content (content_stands former c.args.root forward old to_roll left) source.journals_stand in
    c.pass_all.ensures.bad file slot (search rules) t journals there

pub returns-in_err-reached-clause-within : goal.returns-in_err-reached-clause-within
returns-in_err-reached-clause-within g c = let v = g.D.Disk.view in let old = v c.args.disk.now in let mid = v c.pass_all.new.disk in let reads = c.pass_all.ensures.reads in let root = c.args.root in let copies = c.args.copies.now in
    λ t former forward journals groups aij classes to_roll source takes sound. within_reads former c.args.root forward groups aij classes old mid reads t

pub returns-in_err-reached-clause-others : goal.returns-in_err-reached-clause-others
returns-in_err-reached-clause-others g c = let v = g.D.Disk.view in let old = v c.args.disk.now in let mid = v c.pass_all.new.disk in let reads = c.pass_all.ensures.reads in let root = c.args.root in let copies = c.args.copies.now in
    λ t file other. file_read old mid reads t file

pub carry_out-requires : goal.carry_out-requires
carry_out-requires g c = let some = c.requires.allowed.ceiling.0 in let above = c.in_ok-reached.ensures.above in record { allowed = c.requires.allowed; first = omega (arith, some, above); few = c.in_ok-reached.ensures.ceiling }

pub returns-in_err-carry_out-clause-gap : goal.returns-in_err-carry_out-clause-gap
returns-in_err-carry_out-clause-gap g c = λ number is t former forward journals to_roll stand.
    let p = err_from_is_err_and c.from_residual-in_err-carry_out.result c.from_residual-in_err-carry_out.ensures.1 in
    absurd (laying_no_gap c.in_err-carry_out.field-0.0 number (sym p.2 ∙ err_same _ _ (sym p.1 ∙ is)))

pub returns-in_err-carry_out-clause-nothing : goal.returns-in_err-carry_out-clause-nothing
returns-in_err-carry_out-clause-nothing g c = λ number is.
    let p = err_from_is_err_and c.from_residual-in_err-carry_out.result c.from_residual-in_err-carry_out.ensures.1 in
    absurd (laying_no_gap c.in_err-carry_out.field-0.0 number (sym p.2 ∙ err_same _ _ (sym p.1 ∙ is)))

pub returns-in_err-carry_out-clause-bad : goal.returns-in_err-carry_out-clause-bad
returns-in_err-carry_out-clause-bad g c = let v = g.D.Disk.view in let old = v c.args.disk.now in let passed = v c.pass_all.new.disk in let mid = v c.check_fit.new.disk in let reads = then_reads old passed mid c.pass_all.ensures.reads c.check_fit.ensures.reads in let root = c.args.root in let copies = c.args.copies.now in
    λ file slot is t former forward journals groups aij to_roll source takes.
    let left = g.met.D.Disk.content_left c.args.disk.now old.moment t (omega arith) in
    let there = journals_now former c.args.root forward copies journals old.content (content_stands former c.args.root forward old to_roll left) source.journals_stand in
    let follows = c.in_ok-reached.ensures.reached t journals there in
    let told = still_tells old mid reads.told t in
    let to_roll_mid = to_roll_read former c.args.root forward groups aij (λ (n : ℕ). n) old mid reads t to_roll in
    let same = top_is former copies c.args.root forward journals groups aij source _ c.in_ok-reached.reached refl refl follows in
    let there_passed = subst (λ (m : Image). AreJournalsIn m (files_of copies) journals) (sym (image_same old passed c.pass_all.ensures.reads t)) there in
    let fit_now : FitPages old.content c.args.root.limits.pages groups = subst (λ (m : Image). FitPages m c.args.root.limits.pages groups) (image_same old passed c.pass_all.ensures.reads t) (c.in_ok-check_fit.ensures.fit (still_tells old passed c.pass_all.ensures.reads.told t) journals groups there_passed source.follows) in
    let fit = fits_all former c.args.root forward copies journals groups aij source old to_roll left takes fit_now in
    c.carry_out.ensures.bad file slot (search rules) told former forward journals groups aij to_roll_mid source fit same

pub returns-in_err-carry_out-clause-within : goal.returns-in_err-carry_out-clause-within
returns-in_err-carry_out-clause-within g c = let v = g.D.Disk.view in let old = v c.args.disk.now in let passed = v c.pass_all.new.disk in let mid = v c.check_fit.new.disk in let reads = then_reads old passed mid c.pass_all.ensures.reads c.check_fit.ensures.reads in let root = c.args.root in let copies = c.args.copies.now in
    λ t former forward journals groups aij classes to_roll source takes sound.
    let left = g.met.D.Disk.content_left c.args.disk.now old.moment t (omega arith) in
    let there = journals_now former c.args.root forward copies journals old.content (content_stands former c.args.root forward old to_roll left) source.journals_stand in
    let follows = c.in_ok-reached.ensures.reached t journals there in
    let told = still_tells old mid reads.told t in
    let to_roll_mid = to_roll_read former c.args.root forward groups aij (λ (n : ℕ). n) old mid reads t to_roll in
    let same = top_is former copies c.args.root forward journals groups aij source _ c.in_ok-reached.reached refl refl follows in
    let there_passed = subst (λ (m : Image). AreJournalsIn m (files_of copies) journals) (sym (image_same old passed c.pass_all.ensures.reads t)) there in
    let fit_now : FitPages old.content c.args.root.limits.pages groups = subst (λ (m : Image). FitPages m c.args.root.limits.pages groups) (image_same old passed c.pass_all.ensures.reads t) (c.in_ok-check_fit.ensures.fit (still_tells old passed c.pass_all.ensures.reads.told t) journals groups there_passed source.follows) in
    let fit = fits_all former c.args.root forward copies journals groups aij source old to_roll left takes fit_now in
    within_behind former root forward groups aij classes old mid reads t (v c.carry_out.new.disk) (c.carry_out.ensures.within told former forward journals groups aij classes to_roll_mid source fit sound same)

pub returns-in_err-carry_out-clause-others : goal.returns-in_err-carry_out-clause-others
returns-in_err-carry_out-clause-others g c = let v = g.D.Disk.view in let old = v c.args.disk.now in let passed = v c.pass_all.new.disk in let mid = v c.check_fit.new.disk in let reads = then_reads old passed mid c.pass_all.ensures.reads c.check_fit.ensures.reads in let root = c.args.root in let copies = c.args.copies.now in
    λ t file other. file_on old mid (v c.carry_out.new.disk) file (file_read old mid reads t file) (c.carry_out.ensures.others (still_tells old mid reads.told t) file other)

pub returns-clause-count : goal.returns-clause-count
returns-clause-count g c = let v = g.D.Disk.view in let old = v c.args.disk.now in let passed = v c.pass_all.new.disk in let mid = v c.check_fit.new.disk in let reads = then_reads old passed mid c.pass_all.ensures.reads c.check_fit.ensures.reads in let root = c.args.root in let copies = c.args.copies.now in
    λ t former forward journals groups aij to_roll source.
    let left = g.met.D.Disk.content_left c.args.disk.now old.moment t (omega arith) in
    let there = journals_now former c.args.root forward copies journals old.content (content_stands former c.args.root forward old to_roll left) source.journals_stand in
    let follows = c.in_ok-reached.ensures.reached t journals there in
    let told = still_tells old mid reads.told t in
    let to_roll_mid = to_roll_read former c.args.root forward groups aij (λ (n : ℕ). n) old mid reads t to_roll in
    let same = top_is former copies c.args.root forward journals groups aij source _ c.in_ok-reached.reached refl refl follows in
    count_is former copies c.args.root forward journals groups aij source _ c.in_ok-reached.reached refl follows

pub returns-clause-rolled : goal.returns-clause-rolled
returns-clause-rolled g c = let v = g.D.Disk.view in let old = v c.args.disk.now in let passed = v c.pass_all.new.disk in let mid = v c.check_fit.new.disk in let reads = then_reads old passed mid c.pass_all.ensures.reads c.check_fit.ensures.reads in let root = c.args.root in let copies = c.args.copies.now in
    λ t former forward journals groups aij classes to_roll source takes sound image now.
    let left = g.met.D.Disk.content_left c.args.disk.now old.moment t (omega arith) in
    let there = journals_now former c.args.root forward copies journals old.content (content_stands former c.args.root forward old to_roll left) source.journals_stand in
    let follows = c.in_ok-reached.ensures.reached t journals there in
    let told = still_tells old mid reads.told t in
    let to_roll_mid = to_roll_read former c.args.root forward groups aij (λ (n : ℕ). n) old mid reads t to_roll in
    let same = top_is former copies c.args.root forward journals groups aij source _ c.in_ok-reached.reached refl refl follows in
    let there_passed = subst (λ (m : Image). AreJournalsIn m (files_of copies) journals) (sym (image_same old passed c.pass_all.ensures.reads t)) there in
    let fit_now : FitPages old.content c.args.root.limits.pages groups = subst (λ (m : Image). FitPages m c.args.root.limits.pages groups) (image_same old passed c.pass_all.ensures.reads t) (c.in_ok-check_fit.ensures.fit (still_tells old passed c.pass_all.ensures.reads.told t) journals groups there_passed source.follows) in
    let fit = fits_all former c.args.root forward copies journals groups aij source old to_roll left takes fit_now in
    c.in_ok-carry_out.ensures.rolled told former forward journals groups aij classes to_roll_mid source fit sound same image now

pub returns-clause-within : goal.returns-clause-within
returns-clause-within g c = let v = g.D.Disk.view in let old = v c.args.disk.now in let passed = v c.pass_all.new.disk in let mid = v c.check_fit.new.disk in let reads = then_reads old passed mid c.pass_all.ensures.reads c.check_fit.ensures.reads in let root = c.args.root in let copies = c.args.copies.now in
    λ t former forward journals groups aij classes to_roll source takes sound.
    let left = g.met.D.Disk.content_left c.args.disk.now old.moment t (omega arith) in
    let there = journals_now former c.args.root forward copies journals old.content (content_stands former c.args.root forward old to_roll left) source.journals_stand in
    let follows = c.in_ok-reached.ensures.reached t journals there in
    let told = still_tells old mid reads.told t in
    let to_roll_mid = to_roll_read former c.args.root forward groups aij (λ (n : ℕ). n) old mid reads t to_roll in
    let same = top_is former copies c.args.root forward journals groups aij source _ c.in_ok-reached.reached refl refl follows in
    let there_passed = subst (λ (m : Image). AreJournalsIn m (files_of copies) journals) (sym (image_same old passed c.pass_all.ensures.reads t)) there in
    let fit_now : FitPages old.content c.args.root.limits.pages groups = subst (λ (m : Image). FitPages m c.args.root.limits.pages groups) (image_same old passed c.pass_all.ensures.reads t) (c.in_ok-check_fit.ensures.fit (still_tells old passed c.pass_all.ensures.reads.told t) journals groups there_passed source.follows) in
    let fit = fits_all former c.args.root forward copies journals groups aij source old to_roll left takes fit_now in
    within_behind former root forward groups aij classes old mid reads t (v c.carry_out.new.disk) (c.carry_out.ensures.within told former forward journals groups aij classes to_roll_mid source fit sound same)

pub returns-clause-others : goal.returns-clause-others
returns-clause-others g c = let v = g.D.Disk.view in let old = v c.args.disk.now in let passed = v c.pass_all.new.disk in let mid = v c.check_fit.new.disk in let reads = then_reads old passed mid c.pass_all.ensures.reads c.check_fit.ensures.reads in let root = c.args.root in let copies = c.args.copies.now in
    λ t file other. file_on old mid (v c.carry_out.new.disk) file (file_read old mid reads t file) (c.carry_out.ensures.others (still_tells old mid reads.told t) file other)

pub returns-in_err-reached-clause-missing : goal.returns-in_err-reached-clause-missing
returns-in_err-reached-clause-missing g c = λ t former forward journals number to_roll stand gap.
    let p = err_from_is_err_and c.from_residual.result c.from_residual.ensures.1 in
    (ap is_err p.1, c.pass_all.ensures.reads)

pub returns-in_err-carry_out-clause-missing : goal.returns-in_err-carry_out-clause-missing
returns-in_err-carry_out-clause-missing g c = let v = g.D.Disk.view in let old = v c.args.disk.now in
    λ t former forward journals number to_roll stand gap.
    let left = g.met.D.Disk.content_left c.args.disk.now old.moment t (omega arith) in
    let there = journals_now former c.args.root forward c.args.copies.now journals old.content (content_stands former c.args.root forward old to_roll left) stand in
    absurd (no_pass journals number _ c.in_ok-reached.reached (c.in_ok-reached.ensures.reached t journals there) gap)

pub returns-clause-missing : goal.returns-clause-missing
returns-clause-missing g c = let v = g.D.Disk.view in let old = v c.args.disk.now in
    λ t former forward journals number to_roll stand gap.
    let left = g.met.D.Disk.content_left c.args.disk.now old.moment t (omega arith) in
    let there = journals_now former c.args.root forward c.args.copies.now journals old.content (content_stands former c.args.root forward old to_roll left) stand in
    absurd (no_pass journals number _ c.in_ok-reached.reached (c.in_ok-reached.ensures.reached t journals there) gap)

-- ---- groups that don't fit

pub returns-in_err-reached-clause-unfit : goal.returns-in_err-reached-clause-unfit
returns-in_err-reached-clause-unfit g c = λ key is t former forward journals groups to_roll has fit. c.pass_all.ensures.no_unfit key (search rules)

pub returns-in_err-reached-clause-unfitting : goal.returns-in_err-reached-clause-unfitting
returns-in_err-reached-clause-unfitting g c = λ t former forward journals groups to_roll has unfit.
    let p = err_from_is_err_and c.from_residual.result c.from_residual.ensures.1 in
    (ap is_err p.1, c.pass_all.ensures.reads)

pub returns-in_err-check_fit-clause-gap : goal.returns-in_err-check_fit-clause-gap
returns-in_err-check_fit-clause-gap g c = λ number is t former forward journals to_roll stand. absurd (c.check_fit.ensures.no_gap number (search rules))

pub returns-in_err-check_fit-clause-nothing : goal.returns-in_err-check_fit-clause-nothing
returns-in_err-check_fit-clause-nothing g c = λ number is. absurd (c.check_fit.ensures.no_gap number (search rules))

pub returns-in_err-check_fit-clause-missing : goal.returns-in_err-check_fit-clause-missing
returns-in_err-check_fit-clause-missing g c = let v = g.D.Disk.view in let old = v c.args.disk.now in
    λ t former forward journals number to_roll stand gap.
    let left = g.met.D.Disk.content_left c.args.disk.now old.moment t (omega arith) in
    let there = journals_now former c.args.root forward c.args.copies.now journals old.content (content_stands former c.args.root forward old to_roll left) stand in
    absurd (no_pass journals number _ c.in_ok-reached.reached (c.in_ok-reached.ensures.reached t journals there) gap)

pub returns-in_err-check_fit-clause-unfit : goal.returns-in_err-check_fit-clause-unfit
returns-in_err-check_fit-clause-unfit g c = let v = g.D.Disk.view in let old = v c.args.disk.now in let passed = v c.pass_all.new.disk in let copies = c.args.copies.now in
    λ key is t former forward journals groups to_roll has fit.
    let left = g.met.D.Disk.content_left c.args.disk.now old.moment t (omega arith) in
    let there = journals_now former c.args.root forward copies journals old.content (content_stands former c.args.root forward old to_roll left) has.journals_stand in
    let there_passed = subst (λ (m : Image). AreJournalsIn m (files_of copies) journals) (sym (image_same old passed c.pass_all.ensures.reads t)) there in
    c.check_fit.ensures.unfit key (search rules) (still_tells old passed c.pass_all.ensures.reads.told t) journals groups there_passed has.follows
    (subst (λ (m : Image). FitPages m c.args.root.limits.pages groups) (sym (image_same old passed c.pass_all.ensures.reads t)) fit)

pub returns-in_err-check_fit-clause-untouched : goal.returns-in_err-check_fit-clause-untouched
returns-in_err-check_fit-clause-untouched g c = let v = g.D.Disk.view in
    λ key is. then_reads (v c.args.disk.now) (v c.pass_all.new.disk) (v c.check_fit.new.disk) c.pass_all.ensures.reads c.check_fit.ensures.reads

pub returns-in_err-check_fit-clause-unfitting : goal.returns-in_err-check_fit-clause-unfitting
returns-in_err-check_fit-clause-unfitting g c = let v = g.D.Disk.view in
    λ t former forward journals groups to_roll has unfit.
    let p = err_from_is_err_and c.from_residual-in_err-check_fit.result c.from_residual-in_err-check_fit.ensures.1 in
    (ap is_err p.1, then_reads (v c.args.disk.now) (v c.pass_all.new.disk) (v c.check_fit.new.disk) c.pass_all.ensures.reads c.check_fit.ensures.reads)

pub returns-in_err-check_fit-clause-bad : goal.returns-in_err-check_fit-clause-bad
returns-in_err-check_fit-clause-bad g c = let v = g.D.Disk.view in let old = v c.args.disk.now in let passed = v c.pass_all.new.disk in let copies = c.args.copies.now in
    λ file slot is t former forward journals groups aij to_roll source takes.
    let left = g.met.D.Disk.content_left c.args.disk.now old.moment t (omega arith) in
    let there = journals_now former c.args.root forward copies journals old.content (content_stands former c.args.root forward old to_roll left) source.journals_stand in
    let there_passed = subst (λ (m : Image). AreJournalsIn m (files_of copies) journals) (sym (image_same old passed c.pass_all.ensures.reads t)) there in
    c.check_fit.ensures.bad file slot (search rules) (still_tells old passed c.pass_all.ensures.reads.told t) journals groups there_passed source.follows

pub returns-in_err-check_fit-clause-within : goal.returns-in_err-check_fit-clause-within
returns-in_err-check_fit-clause-within g c = let v = g.D.Disk.view in let old = v c.args.disk.now in let passed = v c.pass_all.new.disk in let mid = v c.check_fit.new.disk in let reads = then_reads old passed mid c.pass_all.ensures.reads c.check_fit.ensures.reads in
    λ t former forward journals groups aij classes to_roll source takes sound. within_reads former c.args.root forward groups aij classes old mid reads t

pub returns-in_err-check_fit-clause-others : goal.returns-in_err-check_fit-clause-others
returns-in_err-check_fit-clause-others g c = let v = g.D.Disk.view in let old = v c.args.disk.now in let passed = v c.pass_all.new.disk in let mid = v c.check_fit.new.disk in let reads = then_reads old passed mid c.pass_all.ensures.reads c.check_fit.ensures.reads in
    λ t file other. file_read old mid reads t file

pub returns-in_err-carry_out-clause-unfit : goal.returns-in_err-carry_out-clause-unfit
returns-in_err-carry_out-clause-unfit g c = λ key is t former forward journals groups to_roll has fit.
    let p = err_from_is_err_and c.from_residual-in_err-carry_out.result c.from_residual-in_err-carry_out.ensures.1 in
    laying_no_unfit c.in_err-carry_out.field-0.0 key (sym p.2 ∙ err_same _ _ (sym p.1 ∙ is))

pub returns-in_err-carry_out-clause-untouched : goal.returns-in_err-carry_out-clause-untouched
returns-in_err-carry_out-clause-untouched g c = λ key is.
    let p = err_from_is_err_and c.from_residual-in_err-carry_out.result c.from_residual-in_err-carry_out.ensures.1 in
    absurd (laying_no_unfit c.in_err-carry_out.field-0.0 key (sym p.2 ∙ err_same _ _ (sym p.1 ∙ is)))

pub returns-in_err-carry_out-clause-unfitting : goal.returns-in_err-carry_out-clause-unfitting
returns-in_err-carry_out-clause-unfitting g c = let v = g.D.Disk.view in let old = v c.args.disk.now in let passed = v c.pass_all.new.disk in let copies = c.args.copies.now in
    λ t former forward journals groups to_roll has unfit.
    let left = g.met.D.Disk.content_left c.args.disk.now old.moment t (omega arith) in
    let there = journals_now former c.args.root forward copies journals old.content (content_stands former c.args.root forward old to_roll left) has.journals_stand in
    let there_passed = subst (λ (m : Image). AreJournalsIn m (files_of copies) journals) (sym (image_same old passed c.pass_all.ensures.reads t)) there in
    absurd (unfit (subst (λ (m : Image). FitPages m c.args.root.limits.pages groups) (image_same old passed c.pass_all.ensures.reads t) (c.in_ok-check_fit.ensures.fit (still_tells old passed c.pass_all.ensures.reads.told t) journals groups there_passed has.follows)))

pub returns-clause-unfitting : goal.returns-clause-unfitting
returns-clause-unfitting g c = let v = g.D.Disk.view in let old = v c.args.disk.now in let passed = v c.pass_all.new.disk in let copies = c.args.copies.now in
    λ t former forward journals groups to_roll has unfit.
    let left = g.met.D.Disk.content_left c.args.disk.now old.moment t (omega arith) in
    let there = journals_now former c.args.root forward copies journals old.content (content_stands former c.args.root forward old to_roll left) has.journals_stand in
    let there_passed = subst (λ (m : Image). AreJournalsIn m (files_of copies) journals) (sym (image_same old passed c.pass_all.ensures.reads t)) there in
    absurd (unfit (subst (λ (m : Image). FitPages m c.args.root.limits.pages groups) (image_same old passed c.pass_all.ensures.reads t) (c.in_ok-check_fit.ensures.fit (still_tells old passed c.pass_all.ensures.reads.told t) journals groups there_passed has.follows)))
