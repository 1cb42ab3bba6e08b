use Rattle.std.proofs.Common.{rules, ◌∙◌, List, [], sym, subst}
use Rattle.std.proofs.lemmas.Result.{err_from_is_err_and}
use Rattle.rdb_outside.specs.Disk.{Image}
use Rattle.rdb_outside.specs.Runs.{then_reads}
use Rattle.line_moves.proofs.Runs.{on_ok, still_tells}
use Rattle.line_opening.proofs.Passed.{image_same}
use Rattle.fitted_groups.proofs.of_laid_groups.Faults.{err_same}
use Rattle.fitted_groups.specs.declared.claims.PageClaim.{PageClaim}
use Rattle.fitted_groups.specs.Claims.{AreFitted}
use Rattle.rmu_recover.specs.Journals.{files_of, AreJournalsIn}
use Rattle.rmu_recover.proofs.Faults.{laying_no_gap, laying_no_unfit}
use Rattle.rmu_recover.proofs.fitting.check_fit.Goals as goal

pub returns-in_err-claims-clause-no_gap : goal.returns-in_err-claims-clause-no_gap
returns-in_err-claims-clause-no_gap g c = λ number is.
    let p = err_from_is_err_and c.from_residual.result c.from_residual.ensures.1 in
    laying_no_gap c.in_err-claims.field-0.0 number (sym p.2 ∙ err_same _ _ (sym p.1 ∙ is))

pub returns-in_err-claims-clause-unfit : goal.returns-in_err-claims-clause-unfit
returns-in_err-claims-clause-unfit g c = λ key is t journals groups there follows fit.
    let p = err_from_is_err_and c.from_residual.result c.from_residual.ensures.1 in
    laying_no_unfit c.in_err-claims.field-0.0 key (sym p.2 ∙ err_same _ _ (sym p.1 ∙ is))

pub returns-in_err-claims-clause-bad : goal.returns-in_err-claims-clause-bad
returns-in_err-claims-clause-bad g c = λ named slot is t journals groups there follows. c.page_claims.ensures.bad named slot (search rules)

pub returns-clause-reads : goal.returns-clause-reads
returns-clause-reads g c = let v = g.D.Disk.view in then_reads (v c.args.disk.now) (v c.page_claims.new.disk) (v c.fit_all.new.disk) c.page_claims.ensures.reads c.fit_all.ensures.reads

pub returns-clause-bad : goal.returns-clause-bad
returns-clause-bad g c = let v = g.D.Disk.view in let old = v c.args.disk.now in let mid = v c.page_claims.new.disk in let reads = c.page_claims.ensures.reads in
    λ named slot is t journals groups there follows.
    let there_mid = subst (λ (m : Image). AreJournalsIn m (files_of c.args.copies.now) journals) (sym (image_same old mid reads t)) there in
    c.fit_all.ensures.bad named slot is (still_tells old mid reads.told t) journals groups there_mid follows

pub returns-clause-fit : goal.returns-clause-fit
returns-clause-fit g c = let v = g.D.Disk.view in let old = v c.args.disk.now in let mid = v c.page_claims.new.disk in let reads = c.page_claims.ensures.reads in
    on_ok _ _ c.fit_all.result (λ fit t journals groups there follows.
    let there_mid = subst (λ (m : Image). AreJournalsIn m (files_of c.args.copies.now) journals) (sym (image_same old mid reads t)) there in
    fit (still_tells old mid reads.told t) journals groups there_mid follows old.content c.args.pages (subst (λ (cs : List PageClaim). AreFitted old.content c.args.pages [] cs) (sym c.as_mut_slice.ensures.value) (c.in_ok-claims.ensures.fitted t))) c.fit_all.ensures.fit

pub returns-clause-unfit : goal.returns-clause-unfit
returns-clause-unfit g c = let v = g.D.Disk.view in let old = v c.args.disk.now in let mid = v c.page_claims.new.disk in let reads = c.page_claims.ensures.reads in
    λ key is t journals groups there follows.
    let there_mid = subst (λ (m : Image). AreJournalsIn m (files_of c.args.copies.now) journals) (sym (image_same old mid reads t)) there in
    c.fit_all.ensures.unfit key is (still_tells old mid reads.told t) journals groups there_mid follows old.content c.args.pages (subst (λ (cs : List PageClaim). AreFitted old.content c.args.pages [] cs) (sym c.as_mut_slice.ensures.value) (c.in_ok-claims.ensures.fitted t))
