use Rattle.std.specs.Prelude.{slice_index_or}
use Rattle.std.proofs.lemmas.Option.{slice_get-get_or}
use Rattle.std.proofs.Common.{rules, ◌∙◌, [], ap, sym, subst}
use Rattle.rdb_types.specs.File.{slot_bytes}
use Rattle.rdb_types.specs.declared.file.FileId.{FileId}
use Rattle.rdb_outside.specs.Runs.{no_calls, then_reads}
use Rattle.new_database.specs.Maker.{aij_file}
use Rattle.line_moves.proofs.Runs.{still_tells}
use Rattle.journal_backup.specs.Copied.{copy_named}
use Rattle.fitted_groups.specs.laid_groups.Passing.{IsJournalIn}
use Rattle.fitted_groups.specs.Meeting.{lines_among}
use Rattle.rmu_recover.specs.Journals.{files_of}
use Rattle.rmu_recover.proofs.Walking.{journal_there, this_copy, no_more_copies, none_yet, copy_next, journal_last, laid_to_next}
use Rattle.rmu_recover.proofs.GroupsFit.{fitted_more, lines_left, fit_left, all_fit_pages}
use Rattle.rmu_recover.proofs.fitting.fit_all.Goals as goal

pub loop-number-init : goal.loop-number-init
loop-number-init g c = let before = g.D.Disk.view c.args.disk.now in
    record {
      reads = no_calls before;
      at = λ t journals groups there is. none_yet before.content c.args.copies.now c.args.last journals groups there is;
      fitted = λ t journals groups there is image pages are. record { at = none_yet before.content c.args.copies.now c.args.last journals groups there is; are = are };
    }

pub fit_next-requires : goal.fit_next-requires
fit_next-requires g c = ap slot_bytes c.copy_file.ensures

pub returns-in_err-behind-clause-reads : goal.returns-in_err-behind-clause-reads
returns-in_err-behind-clause-reads g c = let v = g.D.Disk.view in then_reads (v c.args.disk.now) (v c.loop-number.disk) (v c.fit_next.new.disk) c.loop-number.invariant.reads c.fit_next.ensures.reads

pub returns-in_err-behind-clause-bad : goal.returns-in_err-behind-clause-bad
returns-in_err-behind-clause-bad g c = let v = g.D.Disk.view in let old = v c.args.disk.now in let mid = v c.loop-number.disk in let so_far = c.loop-number.invariant in
    λ named slot is t journals groups there follows. let was = so_far.at t journals groups there follows in
    let number = slice_index_or c.args.copies.now c.loop-number.number-index 0 in
    let got = slice_get-get_or c.args.copies.now c.loop-number.number-index 0 c.loop-number-test.true in
    let next = this_copy c.args.copies.now c.loop-number.number-index number was.copy got in
    let found = copy_next old.content c.args.copies.now groups c.loop-number.number-index c.loop-number.behind was number next.0 next.1 in
    let there_now = journal_there old.content mid.content (copy_named number) found.journal (λ s. (so_far.reads.keeps t).content (copy_named number) s) found.here in
    let here = subst (λ (f : FileId). IsJournalIn mid.content f found.journal) (sym c.copy_file.ensures) there_now in
    c.fit_next.ensures.bad named slot (search rules) (still_tells old mid so_far.reads.told t) found.journal here

pub returns-in_err-behind-clause-unfit : goal.returns-in_err-behind-clause-unfit
returns-in_err-behind-clause-unfit g c = let v = g.D.Disk.view in let old = v c.args.disk.now in let mid = v c.loop-number.disk in let so_far = c.loop-number.invariant in
    λ key is t journals groups there follows image pages are fit. let so = so_far.fitted t journals groups there follows image pages are in let was = so.at in
    let number = slice_index_or c.args.copies.now c.loop-number.number-index 0 in
    let got = slice_get-get_or c.args.copies.now c.loop-number.number-index 0 c.loop-number-test.true in
    let next = this_copy c.args.copies.now c.loop-number.number-index number was.copy got in
    let found = copy_next old.content c.args.copies.now groups c.loop-number.number-index c.loop-number.behind was number next.0 next.1 in
    let there_now = journal_there old.content mid.content (copy_named number) found.journal (λ s. (so_far.reads.keeps t).content (copy_named number) s) found.here in
    let here = subst (λ (f : FileId). IsJournalIn mid.content f found.journal) (sym c.copy_file.ensures) there_now in
    c.fit_next.ensures.unfit key (search rules) (still_tells old mid so_far.reads.told t) found.journal here image pages (lines_among was.front)
    (lines_left old.content c.args.copies.now groups c.loop-number.number-index c.loop-number.behind was (copy_named number) (files_of next.0) found) so.are
    (fit_left old.content c.args.copies.now groups c.loop-number.number-index c.loop-number.behind was (copy_named number) (files_of next.0) found image pages fit)

pub loop-number-preserved : goal.loop-number-preserved
loop-number-preserved g c = let v = g.D.Disk.view in let old = v c.args.disk.now in let mid = v c.loop-number.disk in let so_far = c.loop-number.invariant in
    record {
      reads = then_reads old mid (v c.fit_next.new.disk) so_far.reads c.fit_next.ensures.reads;
      at = λ t journals groups there follows. let was = so_far.at t journals groups there follows in
          let number = slice_index_or c.args.copies.now c.loop-number.number-index 0 in
          let got = slice_get-get_or c.args.copies.now c.loop-number.number-index 0 c.loop-number-test.true in
          let next = this_copy c.args.copies.now c.loop-number.number-index number was.copy got in
          let found = copy_next old.content c.args.copies.now groups c.loop-number.number-index c.loop-number.behind was number next.0 next.1 in
          let there_now = journal_there old.content mid.content (copy_named number) found.journal (λ s. (so_far.reads.keeps t).content (copy_named number) s) found.here in
          let here = subst (λ (f : FileId). IsJournalIn mid.content f found.journal) (sym c.copy_file.ensures) there_now in
          laid_to_next old.content c.args.copies.now groups c.loop-number.number-index c.loop-number.behind was number next.0 next.1 c.in_ok-behind.behind (c.in_ok-behind.ensures.behind (still_tells old mid so_far.reads.told t) found.journal here);
      fitted = λ t journals groups there follows image pages are. let so = so_far.fitted t journals groups there follows image pages are in let was = so.at in
          let number = slice_index_or c.args.copies.now c.loop-number.number-index 0 in
          let got = slice_get-get_or c.args.copies.now c.loop-number.number-index 0 c.loop-number-test.true in
          let next = this_copy c.args.copies.now c.loop-number.number-index number was.copy got in
          let found = copy_next old.content c.args.copies.now groups c.loop-number.number-index c.loop-number.behind was number next.0 next.1 in
          let there_now = journal_there old.content mid.content (copy_named number) found.journal (λ s. (so_far.reads.keeps t).content (copy_named number) s) found.here in
          let here = subst (λ (f : FileId). IsJournalIn mid.content f found.journal) (sym c.copy_file.ensures) there_now in
          record {
            at = laid_to_next old.content c.args.copies.now groups c.loop-number.number-index c.loop-number.behind was number next.0 next.1 c.in_ok-behind.behind (c.in_ok-behind.ensures.behind (still_tells old mid so_far.reads.told t) found.journal here);
            are = fitted_more old.content c.args.copies.now groups c.loop-number.number-index c.loop-number.behind was (copy_named number) (files_of next.0) found image pages c.fit_next.new.claims
                (c.in_ok-behind.ensures.fitted (still_tells old mid so_far.reads.told t) found.journal here image pages (lines_among was.front) so.are);
          };
    }

pub fit_next-requires-2 : goal.fit_next-requires-2
fit_next-requires-2 g c = ap slot_bytes c.aij_file.ensures

pub returns-in_err-fit_next-clause-reads : goal.returns-in_err-fit_next-clause-reads
returns-in_err-fit_next-clause-reads g c = let v = g.D.Disk.view in then_reads (v c.args.disk.now) (v c.loop-number.disk) (v c.fit_next-2.new.disk) c.loop-number.invariant.reads c.fit_next-2.ensures.reads

pub returns-in_err-fit_next-clause-bad : goal.returns-in_err-fit_next-clause-bad
returns-in_err-fit_next-clause-bad g c = let v = g.D.Disk.view in let old = v c.args.disk.now in let mid = v c.loop-number.disk in let so_far = c.loop-number.invariant in
    λ named slot is t journals groups there follows. let was = so_far.at t journals groups there follows in
    let none = no_more_copies c.args.copies.now c.loop-number.number-index was.copy c.loop-number-test.false in
    let found = journal_last old.content c.args.copies.now groups c.loop-number.number-index c.loop-number.behind was none in
    let there_now = journal_there old.content mid.content aij_file found.journal (λ s. (so_far.reads.keeps t).content aij_file s) found.here in
    let here = subst (λ (f : FileId). IsJournalIn mid.content f found.journal) (sym c.aij_file.ensures) there_now in
    c.fit_next-2.ensures.bad named slot (search rules) (still_tells old mid so_far.reads.told t) found.journal here

pub returns-in_err-fit_next-clause-unfit : goal.returns-in_err-fit_next-clause-unfit
returns-in_err-fit_next-clause-unfit g c = let v = g.D.Disk.view in let old = v c.args.disk.now in let mid = v c.loop-number.disk in let so_far = c.loop-number.invariant in
    λ key is t journals groups there follows image pages are fit. let so = so_far.fitted t journals groups there follows image pages are in let was = so.at in
    let none = no_more_copies c.args.copies.now c.loop-number.number-index was.copy c.loop-number-test.false in
    let found = journal_last old.content c.args.copies.now groups c.loop-number.number-index c.loop-number.behind was none in
    let there_now = journal_there old.content mid.content aij_file found.journal (λ s. (so_far.reads.keeps t).content aij_file s) found.here in
    let here = subst (λ (f : FileId). IsJournalIn mid.content f found.journal) (sym c.aij_file.ensures) there_now in
    c.fit_next-2.ensures.unfit key (search rules) (still_tells old mid so_far.reads.told t) found.journal here image pages (lines_among was.front)
    (lines_left old.content c.args.copies.now groups c.loop-number.number-index c.loop-number.behind was aij_file [] found) so.are
    (fit_left old.content c.args.copies.now groups c.loop-number.number-index c.loop-number.behind was aij_file [] found image pages fit)

pub returns-clause-reads : goal.returns-clause-reads
returns-clause-reads g c = let v = g.D.Disk.view in then_reads (v c.args.disk.now) (v c.loop-number.disk) (v c.fit_next-2.new.disk) c.loop-number.invariant.reads c.fit_next-2.ensures.reads

pub returns-clause-fit : goal.returns-clause-fit
returns-clause-fit g c = let v = g.D.Disk.view in let old = v c.args.disk.now in let mid = v c.loop-number.disk in let so_far = c.loop-number.invariant in
    λ t journals groups there follows image pages are. let so = so_far.fitted t journals groups there follows image pages are in let was = so.at in
    let none = no_more_copies c.args.copies.now c.loop-number.number-index was.copy c.loop-number-test.false in
    let found = journal_last old.content c.args.copies.now groups c.loop-number.number-index c.loop-number.behind was none in
    let there_now = journal_there old.content mid.content aij_file found.journal (λ s. (so_far.reads.keeps t).content aij_file s) found.here in
    let here = subst (λ (f : FileId). IsJournalIn mid.content f found.journal) (sym c.aij_file.ensures) there_now in
    all_fit_pages old.content c.args.copies.now groups c.loop-number.number-index c.loop-number.behind was none image pages c.fit_next-2.new.claims
    (c.in_ok-fit_next.ensures.fitted (still_tells old mid so_far.reads.told t) found.journal here image pages (lines_among was.front) so.are)
