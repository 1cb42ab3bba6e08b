use Rattle.std.proofs.Common.{◌≤◌, ◌∙◌, ℕ, Err, ap, sym, subst}
use Rattle.std.proofs.lemmas.Result.{err_from_is_err_and}
use Rattle.rdb_outside.specs.Disk.{Image}
use Rattle.rdb_outside.specs.Runs.{one_call}
use Rattle.line_store.specs.declared.answers.Fault.{Fault}
use Rattle.line_moves.proofs.Runs.{on_ok, still_tells}
use Rattle.line_opening.proofs.Counted.{if_ok}
use Rattle.line_opening.proofs.Passed.{image_same}
use Rattle.stable_lines.specs.Journal.{IsJournalOf}
use Rattle.stable_lines.specs.Rolling.{groups_above}
use Rattle.rolled_lines.specs.HalfLaid.{writes_of}
use Rattle.guarded_lines.specs.Laying.{IsArea}
use Rattle.guarded_root.proofs.Sweeping.{read_run, run_on}
use Rattle.laid_groups.proofs.Faults.{err_same, only_bad}
use Rattle.laid_groups.proofs.Running.{still_ready, read_ready, ready_on, laid_from}
use Rattle.laid_groups.proofs.Walking.{seen_same}
use Rattle.laid_groups.proofs.journals.lay_journal.Goals as goal

pub returns-in_err-first-clause-bad : goal.returns-in_err-first-clause-bad
returns-in_err-first-clause-bad g c = λ named at is t forward journal ready has fits.
    let p = err_from_is_err_and c.from_residual.result c.from_residual.ensures.1 in
    c.first_number.ensures.bad named at (c.in_err-first.was ∙ ap (λ (f : Fault). Err f) (only_bad c.in_err-first.field-0.0 named at (sym p.2 ∙ err_same _ _ (sym p.1 ∙ is)))) t journal.first has.header

pub returns-in_err-first-clause-runs : goal.returns-in_err-first-clause-runs
returns-in_err-first-clause-runs g c = let v = g.D.Disk.view in read_run IsArea (v c.args.disk.now) (v c.first_number.new.disk) c.first_number.ensures.reads

pub returns-in_err-end-clause-runs : goal.returns-in_err-end-clause-runs
returns-in_err-end-clause-runs g c = let v = g.D.Disk.view in let old = v c.args.disk.now in let first = v c.first_number.new.disk in let mid = v c.length.new.self in
    let reads = one_call old first mid c.length.result c.first_number.ensures.reads c.length.ensures.counts c.length.ensures.kept in
    read_run IsArea old mid reads

pub returns-in_err-end-clause-ready : goal.returns-in_err-end-clause-ready
returns-in_err-end-clause-ready g c = let v = g.D.Disk.view in let old = v c.args.disk.now in let first = v c.first_number.new.disk in let mid = v c.length.new.self in
    let reads = one_call old first mid c.length.result c.first_number.ensures.reads c.length.ensures.counts c.length.ensures.kept in
    λ t forward journal has fits. read_ready forward old mid t reads

pub returns-clause-bad : goal.returns-clause-bad
returns-clause-bad g c = let v = g.D.Disk.view in let old = v c.args.disk.now in let first = v c.first_number.new.disk in let mid = v c.length.new.self in
    let reads = one_call old first mid c.length.result c.first_number.ensures.reads c.length.ensures.counts c.length.ensures.kept in
    λ named at is t forward journal ready has fits.
    let told = still_tells old mid reads.told t in
    let same = λ (s : ℕ). (reads.keeps t).content c.args.file s in
    let here = subst (λ (m : Image). IsJournalOf m journal) (sym (seen_same old.content mid.content c.args.file same)) has in
    let starts = sym (c.in_ok-first.ensures.header t).fields.1.0 ∙ has.header.fields.1.0 in
    c.lay_groups.ensures.bad named at is told forward journal (still_ready forward old mid (read_ready forward old mid t reads ready) ready) here starts fits

pub returns-clause-reached : goal.returns-clause-reached
returns-clause-reached g c = let v = g.D.Disk.view in let old = v c.args.disk.now in let first = v c.first_number.new.disk in let mid = v c.length.new.self in
    let reads = one_call old first mid c.length.result c.first_number.ensures.reads c.length.ensures.counts c.length.ensures.kept in
    if_ok _ _ c.lay_groups.result (λ reached is t journal has.
    let told = still_tells old mid reads.told t in
    let same = λ (s : ℕ). (reads.keeps t).content c.args.file s in
    let here = subst (λ (m : Image). IsJournalOf m journal) (sym (seen_same old.content mid.content c.args.file same)) has in
    let starts = sym (c.in_ok-first.ensures.header t).fields.1.0 ∙ has.header.fields.1.0 in
    let early = still_tells old first c.first_number.ensures.reads.told t in
    let ends = λ (s : ℕ) (le : c.in_ok-end.end ≤ s). (c.length.ensures.kept early).content c.args.file s ∙ c.in_ok-end.ensures.zeros early s le in
    is told journal here starts ends) c.lay_groups.ensures.reached

pub returns-clause-laid : goal.returns-clause-laid
returns-clause-laid g c = let v = g.D.Disk.view in let old = v c.args.disk.now in let first = v c.first_number.new.disk in let mid = v c.length.new.self in
    let reads = one_call old first mid c.length.result c.first_number.ensures.reads c.length.ensures.counts c.length.ensures.kept in
    on_ok _ _ c.lay_groups.result (λ laid t forward journal ready has fits.
    let told = still_tells old mid reads.told t in
    let same = λ (s : ℕ). (reads.keeps t).content c.args.file s in
    let here = subst (λ (m : Image). IsJournalOf m journal) (sym (seen_same old.content mid.content c.args.file same)) has in
    let starts = sym (c.in_ok-first.ensures.header t).fields.1.0 ∙ has.header.fields.1.0 in
    let early = still_tells old first c.first_number.ensures.reads.told t in
    let ends = λ (s : ℕ) (le : c.in_ok-end.end ≤ s). (c.length.ensures.kept early).content c.args.file s ∙ c.in_ok-end.ensures.zeros early s le in
    laid_from forward (writes_of (groups_above c.args.last journal.groups)) old.content mid.content (v c.lay_groups.new.disk).content (image_same old mid reads t)
    (laid told forward journal (still_ready forward old mid (read_ready forward old mid t reads ready) ready) here starts ends fits)) c.lay_groups.ensures.laid

pub returns-clause-runs : goal.returns-clause-runs
returns-clause-runs g c = let v = g.D.Disk.view in let old = v c.args.disk.now in let first = v c.first_number.new.disk in let mid = v c.length.new.self in
    let reads = one_call old first mid c.length.result c.first_number.ensures.reads c.length.ensures.counts c.length.ensures.kept in
    run_on IsArea old mid (v c.lay_groups.new.disk) (read_run IsArea old mid reads) c.lay_groups.ensures.runs

pub returns-clause-ready : goal.returns-clause-ready
returns-clause-ready g c = let v = g.D.Disk.view in let old = v c.args.disk.now in let first = v c.first_number.new.disk in let mid = v c.length.new.self in
    let reads = one_call old first mid c.length.result c.first_number.ensures.reads c.length.ensures.counts c.length.ensures.kept in
    λ t forward journal has fits.
    let told = still_tells old mid reads.told t in
    let same = λ (s : ℕ). (reads.keeps t).content c.args.file s in
    let here = subst (λ (m : Image). IsJournalOf m journal) (sym (seen_same old.content mid.content c.args.file same)) has in
    let starts = sym (c.in_ok-first.ensures.header t).fields.1.0 ∙ has.header.fields.1.0 in
    ready_on forward old mid (v c.lay_groups.new.disk) (read_ready forward old mid t reads) (c.lay_groups.ensures.ready told forward journal here starts fits)
