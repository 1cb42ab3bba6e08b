use Rattle.std.specs.Prelude.{slice_index_or}
use Rattle.std.proofs.lemmas.Option.{slice_get-get_or}
use Rattle.std.proofs.Common.{rules, ◌≡◌, ℕ, List, [], ap, sym, subst}
use Rattle.rdb_types.specs.File.{slot_bytes}
use Rattle.rdb_types.specs.declared.file.FileId.{FileId}
use Rattle.rdb_types.specs.declared.file.FileKind.TheVariants.{Area, Aij, AijBackup}
use Rattle.journal_scan.specs.declared.group.Group.{Group}
use Rattle.new_database.specs.Maker.{aij_file}
use Rattle.line_moves.proofs.Runs.{still_tells}
use Rattle.rolled_lines.specs.HalfLaid.{writes_of}
use Rattle.journal_backup.specs.Copied.{copy_named}
use Rattle.guarded_lines.specs.Laying.{IsArea}
use Rattle.guarded_root.proofs.Sweeping.{no_run, run_on}
use Rattle.fitted_groups.specs.laid_groups.Laid.{LaidOver}
use Rattle.fitted_groups.specs.laid_groups.Passing.{IsJournalIn}
use Rattle.fitted_groups.proofs.of_laid_groups.Running.{still_ready, none_ready, ready_on, none_laid}
use Rattle.rmu_recover.specs.Journals.{files_of}
use Rattle.rmu_recover.proofs.Walking.{journal_there, this_copy, no_more_copies, none_yet, fits_here, laid_more, copy_next, journal_last, laid_to_next, all_front}
use Rattle.rmu_recover.proofs.journals.lay_all.Goals as goal

copy_not : (number : ℕ) → IsArea (copy_named number) → ⊥
copy_not number is = let bad : AijBackup ≡ Area = is in cc

aij_not : IsArea aij_file → ⊥
aij_not is = let bad : Aij ≡ Area = is in cc

pub loop-number-init : goal.loop-number-init
loop-number-init g c = let before = g.D.Disk.view c.args.disk.now in
    record {
      runs = no_run IsArea before;
      at = λ t journals groups there is. none_yet before.content c.args.copies.now c.args.last journals groups there is;
      ready = λ t forward journals groups there is fits. none_ready forward before;
      laid = λ t forward journals groups ready there is fits. record { at = none_yet before.content c.args.copies.now c.args.last journals groups there is; laid = none_laid forward before.content };
    }

pub lay_journal-requires : goal.lay_journal-requires
lay_journal-requires g c = ap slot_bytes c.copy_file.ensures

pub returns-in_err-behind-clause-bad : goal.returns-in_err-behind-clause-bad
returns-in_err-behind-clause-bad g c = let v = g.D.Disk.view in let old = v c.args.disk.now in let mid = v c.loop-number.disk in let so_far = c.loop-number.invariant in
    λ named slot bad t forward journals groups ready there is fits. let was = so_far.at t journals groups there is in
    let number = slice_index_or c.args.copies.now c.loop-number.number-index 0 in
    let got = slice_get-get_or c.args.copies.now c.loop-number.number-index 0 c.loop-number-test.true in
    let next = this_copy c.args.copies.now c.loop-number.number-index number was.copy got in
    let found = copy_next old.content c.args.copies.now groups c.loop-number.number-index c.loop-number.behind was number next.0 next.1 in
    let there_now = journal_there old.content mid.content (copy_named number) found.journal (λ s. (so_far.runs.others t (copy_named number) (copy_not number)).content s) found.here in
    let here = subst (λ (f : FileId). IsJournalIn mid.content f found.journal) (sym c.copy_file.ensures) there_now in
    c.lay_journal.ensures.bad named slot (search rules) (still_tells old mid so_far.runs.told t) forward found.journal (still_ready forward old mid (so_far.ready t forward journals groups there is fits ready) ready) here (fits_here old.content c.args.copies.now groups c.loop-number.number-index c.loop-number.behind was (copy_named number) (files_of next.0) found forward fits)

pub returns-in_err-behind-clause-runs : goal.returns-in_err-behind-clause-runs
returns-in_err-behind-clause-runs g c = let v = g.D.Disk.view in let old = v c.args.disk.now in let mid = v c.loop-number.disk in let so_far = c.loop-number.invariant in
    run_on IsArea old mid (v c.lay_journal.new.disk) so_far.runs c.lay_journal.ensures.runs

pub returns-in_err-behind-clause-ready : goal.returns-in_err-behind-clause-ready
returns-in_err-behind-clause-ready g c = let v = g.D.Disk.view in let old = v c.args.disk.now in let mid = v c.loop-number.disk in let so_far = c.loop-number.invariant in
    λ t forward journals groups there is fits. let was = so_far.at t journals groups there is in
    let number = slice_index_or c.args.copies.now c.loop-number.number-index 0 in
    let got = slice_get-get_or c.args.copies.now c.loop-number.number-index 0 c.loop-number-test.true in
    let next = this_copy c.args.copies.now c.loop-number.number-index number was.copy got in
    let found = copy_next old.content c.args.copies.now groups c.loop-number.number-index c.loop-number.behind was number next.0 next.1 in
    let there_now = journal_there old.content mid.content (copy_named number) found.journal (λ s. (so_far.runs.others t (copy_named number) (copy_not number)).content s) found.here in
    let here = subst (λ (f : FileId). IsJournalIn mid.content f found.journal) (sym c.copy_file.ensures) there_now in
    ready_on forward old mid (v c.lay_journal.new.disk) (so_far.ready t forward journals groups there is fits) (c.lay_journal.ensures.ready (still_tells old mid so_far.runs.told t) forward found.journal here (fits_here old.content c.args.copies.now groups c.loop-number.number-index c.loop-number.behind was (copy_named number) (files_of next.0) found forward fits))

pub loop-number-preserved : goal.loop-number-preserved
loop-number-preserved g c = let v = g.D.Disk.view in let old = v c.args.disk.now in let mid = v c.loop-number.disk in let so_far = c.loop-number.invariant in
    record {
      runs = run_on IsArea old mid (v c.lay_journal.new.disk) so_far.runs c.lay_journal.ensures.runs;
      at = λ t journals groups there is. let was = so_far.at t journals groups there is in
          let number = slice_index_or c.args.copies.now c.loop-number.number-index 0 in
          let got = slice_get-get_or c.args.copies.now c.loop-number.number-index 0 c.loop-number-test.true in
          let next = this_copy c.args.copies.now c.loop-number.number-index number was.copy got in
          let found = copy_next old.content c.args.copies.now groups c.loop-number.number-index c.loop-number.behind was number next.0 next.1 in
          let there_now = journal_there old.content mid.content (copy_named number) found.journal (λ s. (so_far.runs.others t (copy_named number) (copy_not number)).content s) found.here in
          let here = subst (λ (f : FileId). IsJournalIn mid.content f found.journal) (sym c.copy_file.ensures) there_now in
          laid_to_next old.content c.args.copies.now groups c.loop-number.number-index c.loop-number.behind was number next.0 next.1 c.in_ok-behind.behind (c.in_ok-behind.ensures.reached (still_tells old mid so_far.runs.told t) found.journal here);
      ready = λ t forward journals groups there is fits. let was = so_far.at t journals groups there is in
          let number = slice_index_or c.args.copies.now c.loop-number.number-index 0 in
          let got = slice_get-get_or c.args.copies.now c.loop-number.number-index 0 c.loop-number-test.true in
          let next = this_copy c.args.copies.now c.loop-number.number-index number was.copy got in
          let found = copy_next old.content c.args.copies.now groups c.loop-number.number-index c.loop-number.behind was number next.0 next.1 in
          let there_now = journal_there old.content mid.content (copy_named number) found.journal (λ s. (so_far.runs.others t (copy_named number) (copy_not number)).content s) found.here in
          let here = subst (λ (f : FileId). IsJournalIn mid.content f found.journal) (sym c.copy_file.ensures) there_now in
          ready_on forward old mid (v c.lay_journal.new.disk) (so_far.ready t forward journals groups there is fits) (c.lay_journal.ensures.ready (still_tells old mid so_far.runs.told t) forward found.journal here (fits_here old.content c.args.copies.now groups c.loop-number.number-index c.loop-number.behind was (copy_named number) (files_of next.0) found forward fits));
      laid = λ t forward journals groups ready there is fits. let so = so_far.laid t forward journals groups ready there is fits in let was = so.at in
          let number = slice_index_or c.args.copies.now c.loop-number.number-index 0 in
          let got = slice_get-get_or c.args.copies.now c.loop-number.number-index 0 c.loop-number-test.true in
          let next = this_copy c.args.copies.now c.loop-number.number-index number was.copy got in
          let found = copy_next old.content c.args.copies.now groups c.loop-number.number-index c.loop-number.behind was number next.0 next.1 in
          let there_now = journal_there old.content mid.content (copy_named number) found.journal (λ s. (so_far.runs.others t (copy_named number) (copy_not number)).content s) found.here in
          let here = subst (λ (f : FileId). IsJournalIn mid.content f found.journal) (sym c.copy_file.ensures) there_now in
          record {
            at = laid_to_next old.content c.args.copies.now groups c.loop-number.number-index c.loop-number.behind was number next.0 next.1 c.in_ok-behind.behind (c.in_ok-behind.ensures.reached (still_tells old mid so_far.runs.told t) found.journal here);
            laid = laid_more old.content c.args.copies.now groups c.loop-number.number-index c.loop-number.behind was (copy_named number) (files_of next.0) found forward old.content mid.content (v c.lay_journal.new.disk).content so.laid
                (c.in_ok-behind.ensures.laid (still_tells old mid so_far.runs.told t) forward found.journal (still_ready forward old mid (so_far.ready t forward journals groups there is fits ready) ready) here (fits_here old.content c.args.copies.now groups c.loop-number.number-index c.loop-number.behind was (copy_named number) (files_of next.0) found forward fits));
          };
    }

pub lay_journal-requires-2 : goal.lay_journal-requires-2
lay_journal-requires-2 g c = ap slot_bytes c.aij_file.ensures

pub returns-in_err-lay_journal-clause-bad : goal.returns-in_err-lay_journal-clause-bad
returns-in_err-lay_journal-clause-bad g c = let v = g.D.Disk.view in let old = v c.args.disk.now in let mid = v c.loop-number.disk in let so_far = c.loop-number.invariant in
    λ named slot bad t forward journals groups ready there is fits. let was = so_far.at t journals groups there is in
    let none = no_more_copies c.args.copies.now c.loop-number.number-index was.copy c.loop-number-test.false in
    let found = journal_last old.content c.args.copies.now groups c.loop-number.number-index c.loop-number.behind was none in
    let there_now = journal_there old.content mid.content aij_file found.journal (λ s. (so_far.runs.others t aij_file aij_not).content s) found.here in
    let here = subst (λ (f : FileId). IsJournalIn mid.content f found.journal) (sym c.aij_file.ensures) there_now in
    c.lay_journal-2.ensures.bad named slot (search rules) (still_tells old mid so_far.runs.told t) forward found.journal (still_ready forward old mid (so_far.ready t forward journals groups there is fits ready) ready) here (fits_here old.content c.args.copies.now groups c.loop-number.number-index c.loop-number.behind was aij_file [] found forward fits)

pub returns-in_err-lay_journal-clause-runs : goal.returns-in_err-lay_journal-clause-runs
returns-in_err-lay_journal-clause-runs g c = let v = g.D.Disk.view in let old = v c.args.disk.now in let mid = v c.loop-number.disk in let so_far = c.loop-number.invariant in
    run_on IsArea old mid (v c.lay_journal-2.new.disk) so_far.runs c.lay_journal-2.ensures.runs

pub returns-in_err-lay_journal-clause-ready : goal.returns-in_err-lay_journal-clause-ready
returns-in_err-lay_journal-clause-ready g c = let v = g.D.Disk.view in let old = v c.args.disk.now in let mid = v c.loop-number.disk in let so_far = c.loop-number.invariant in
    λ t forward journals groups there is fits. let was = so_far.at t journals groups there is in
    let none = no_more_copies c.args.copies.now c.loop-number.number-index was.copy c.loop-number-test.false in
    let found = journal_last old.content c.args.copies.now groups c.loop-number.number-index c.loop-number.behind was none in
    let there_now = journal_there old.content mid.content aij_file found.journal (λ s. (so_far.runs.others t aij_file aij_not).content s) found.here in
    let here = subst (λ (f : FileId). IsJournalIn mid.content f found.journal) (sym c.aij_file.ensures) there_now in
    ready_on forward old mid (v c.lay_journal-2.new.disk) (so_far.ready t forward journals groups there is fits) (c.lay_journal-2.ensures.ready (still_tells old mid so_far.runs.told t) forward found.journal here (fits_here old.content c.args.copies.now groups c.loop-number.number-index c.loop-number.behind was aij_file [] found forward fits))

pub returns-clause-runs : goal.returns-clause-runs
returns-clause-runs g c = let v = g.D.Disk.view in let old = v c.args.disk.now in let mid = v c.loop-number.disk in let so_far = c.loop-number.invariant in
    run_on IsArea old mid (v c.lay_journal-2.new.disk) so_far.runs c.lay_journal-2.ensures.runs

pub returns-clause-ready : goal.returns-clause-ready
returns-clause-ready g c = let v = g.D.Disk.view in let old = v c.args.disk.now in let mid = v c.loop-number.disk in let so_far = c.loop-number.invariant in
    λ t forward journals groups there is fits. let was = so_far.at t journals groups there is in
    let none = no_more_copies c.args.copies.now c.loop-number.number-index was.copy c.loop-number-test.false in
    let found = journal_last old.content c.args.copies.now groups c.loop-number.number-index c.loop-number.behind was none in
    let there_now = journal_there old.content mid.content aij_file found.journal (λ s. (so_far.runs.others t aij_file aij_not).content s) found.here in
    let here = subst (λ (f : FileId). IsJournalIn mid.content f found.journal) (sym c.aij_file.ensures) there_now in
    ready_on forward old mid (v c.lay_journal-2.new.disk) (so_far.ready t forward journals groups there is fits) (c.lay_journal-2.ensures.ready (still_tells old mid so_far.runs.told t) forward found.journal here (fits_here old.content c.args.copies.now groups c.loop-number.number-index c.loop-number.behind was aij_file [] found forward fits))

pub returns-clause-laid : goal.returns-clause-laid
returns-clause-laid g c = let v = g.D.Disk.view in let old = v c.args.disk.now in let mid = v c.loop-number.disk in let so_far = c.loop-number.invariant in
    λ t forward journals groups ready there is fits. let so = so_far.laid t forward journals groups ready there is fits in let was = so.at in
    let none = no_more_copies c.args.copies.now c.loop-number.number-index was.copy c.loop-number-test.false in
    let found = journal_last old.content c.args.copies.now groups c.loop-number.number-index c.loop-number.behind was none in
    let there_now = journal_there old.content mid.content aij_file found.journal (λ s. (so_far.runs.others t aij_file aij_not).content s) found.here in
    let here = subst (λ (f : FileId). IsJournalIn mid.content f found.journal) (sym c.aij_file.ensures) there_now in
    let over = laid_more old.content c.args.copies.now groups c.loop-number.number-index c.loop-number.behind was aij_file [] found forward old.content mid.content (v c.lay_journal-2.new.disk).content so.laid
    (c.in_ok-lay_journal.ensures.laid (still_tells old mid so_far.runs.told t) forward found.journal (still_ready forward old mid (so_far.ready t forward journals groups there is fits ready) ready) here (fits_here old.content c.args.copies.now groups c.loop-number.number-index c.loop-number.behind was aij_file [] found forward fits)) in
    subst (λ (gs : List Group). LaidOver forward (writes_of gs) old.content (v c.lay_journal-2.new.disk).content) (sym (all_front old.content c.args.copies.now groups c.loop-number.number-index c.loop-number.behind was none)) over
