use Rattle.std.specs.Prelude.{slice_index_or}
use Rattle.std.proofs.lemmas.Option.{slice_get-get_or}
use Rattle.std.proofs.Common.{rules, ◌∙◌, [], ap, sym, subst, arith}
use Rattle.rdb_types.specs.File.{slot_bytes}
use Rattle.rdb_types.specs.declared.file.FileId.{FileId}
use Rattle.rdb_outside.specs.Runs.{no_calls, then_reads}
use Rattle.new_database.specs.Maker.{aij_file}
use Rattle.line_moves.proofs.Runs.{still_tells}
use Rattle.line_opening.proofs.Counted.{if_ok}
use Rattle.rolled_lines.specs.Journals.{gap}
use Rattle.journal_backup.specs.Copied.{copy_named}
use Rattle.fitted_groups.specs.laid_groups.Passing.{IsJournalIn}
use Rattle.rmu_recover.specs.Journals.{files_of}
use Rattle.rmu_recover.proofs.Walking.{journal_there, this_copy, no_more_copies, none_passed, gap_left, next_copy, last_next, passed_on, passed_all}
use Rattle.rmu_recover.proofs.journals.pass_all.Goals as goal

pub loop-number-init : goal.loop-number-init
loop-number-init g c = let before = g.D.Disk.view c.args.disk.now in
    record {
      reads = no_calls before;
      grows = omega arith;
      last = c.requires.last;
      above = omega arith;
      ceiling = c.requires.ceiling;
      passed = λ t journals there. none_passed before.content c.args.copies.now c.args.at journals there;
    }

pub pass_next-requires : goal.pass_next-requires
pass_next-requires g c = record { size = ap slot_bytes c.copy_file.ensures; last = c.loop-number.invariant.last; ceiling = c.loop-number.invariant.ceiling }

pub returns-in_err-reached-clause-reads : goal.returns-in_err-reached-clause-reads
returns-in_err-reached-clause-reads g c = let v = g.D.Disk.view in then_reads (v c.args.disk.now) (v c.loop-number.disk) (v c.pass_next.new.disk) c.loop-number.invariant.reads c.pass_next.ensures.reads

pub returns-in_err-reached-clause-bad : goal.returns-in_err-reached-clause-bad
returns-in_err-reached-clause-bad g c = let v = g.D.Disk.view in let old = v c.args.disk.now in let mid = v c.loop-number.disk in let so_far = c.loop-number.invariant in
    λ named slot is t journals there. let was = so_far.passed t journals there in
    let number = slice_index_or c.args.copies.now c.loop-number.number-index 0 in
    let got = slice_get-get_or c.args.copies.now c.loop-number.number-index 0 c.loop-number-test.true in
    let next = this_copy c.args.copies.now c.loop-number.number-index number was.copy got in
    let found = next_copy old.content c.args.copies.now c.args.at journals c.loop-number.number-index c.loop-number.reached was number next.0 next.1 in
    let there_now = journal_there old.content mid.content (copy_named number) found.journal (λ s. (so_far.reads.keeps t).content (copy_named number) s) found.here in
    let here = subst (λ (f : FileId). IsJournalIn mid.content f found.journal) (sym c.copy_file.ensures) there_now in
    c.pass_next.ensures.bad named slot (search rules) (still_tells old mid so_far.reads.told t) found.journal here

pub returns-in_err-reached-clause-gap : goal.returns-in_err-reached-clause-gap
returns-in_err-reached-clause-gap g c = let v = g.D.Disk.view in let old = v c.args.disk.now in let mid = v c.loop-number.disk in let so_far = c.loop-number.invariant in
    λ at is t journals there. let was = so_far.passed t journals there in
    let number = slice_index_or c.args.copies.now c.loop-number.number-index 0 in
    let got = slice_get-get_or c.args.copies.now c.loop-number.number-index 0 c.loop-number-test.true in
    let next = this_copy c.args.copies.now c.loop-number.number-index number was.copy got in
    let found = next_copy old.content c.args.copies.now c.args.at journals c.loop-number.number-index c.loop-number.reached was number next.0 next.1 in
    let there_now = journal_there old.content mid.content (copy_named number) found.journal (λ s. (so_far.reads.keeps t).content (copy_named number) s) found.here in
    let here = subst (λ (f : FileId). IsJournalIn mid.content f found.journal) (sym c.copy_file.ensures) there_now in
    gap_left c.args.at c.loop-number.reached c.loop-number.reached journals was.left was.groups was.follows was.last was.ceiling old.content (copy_named number) (files_of next.0) found
    (c.pass_next.ensures.gap at (search rules) (still_tells old mid so_far.reads.told t) found.journal here)
    ∙ ap gap (sym (c.pass_next.ensures.missing at (search rules)))

pub loop-number-preserved : goal.loop-number-preserved
loop-number-preserved g c = let v = g.D.Disk.view in let old = v c.args.disk.now in let mid = v c.loop-number.disk in let so_far = c.loop-number.invariant in
    record {
      reads = then_reads old mid (v c.pass_next.new.disk) so_far.reads c.pass_next.ensures.reads;
      grows = let before = so_far.grows in let now = c.in_ok-reached.ensures.grows in omega (arith, before, now);
      last = c.in_ok-reached.ensures.last;
      above = let before = so_far.above in let now = c.in_ok-reached.ensures.above in omega (arith, before, now);
      ceiling = c.in_ok-reached.ensures.ceiling;
      passed = λ t journals there. let was = so_far.passed t journals there in
          let number = slice_index_or c.args.copies.now c.loop-number.number-index 0 in
          let got = slice_get-get_or c.args.copies.now c.loop-number.number-index 0 c.loop-number-test.true in
          let next = this_copy c.args.copies.now c.loop-number.number-index number was.copy got in
          let found = next_copy old.content c.args.copies.now c.args.at journals c.loop-number.number-index c.loop-number.reached was number next.0 next.1 in
          let there_now = journal_there old.content mid.content (copy_named number) found.journal (λ s. (so_far.reads.keeps t).content (copy_named number) s) found.here in
          let here = subst (λ (f : FileId). IsJournalIn mid.content f found.journal) (sym c.copy_file.ensures) there_now in
          let reaches = c.in_ok-reached.ensures.reached (still_tells old mid so_far.reads.told t) found.journal here in
          passed_on old.content c.args.copies.now c.args.at journals c.loop-number.number-index c.loop-number.reached was number next.0 next.1 c.in_ok-reached.reached reaches.begins reaches.is;
    }

pub pass_next-requires-2 : goal.pass_next-requires-2
pass_next-requires-2 g c = record { size = ap slot_bytes c.aij_file.ensures; last = c.loop-number.invariant.last; ceiling = c.loop-number.invariant.ceiling }

pub returns-clause-reads : goal.returns-clause-reads
returns-clause-reads g c = let v = g.D.Disk.view in then_reads (v c.args.disk.now) (v c.loop-number.disk) (v c.pass_next-2.new.disk) c.loop-number.invariant.reads c.pass_next-2.ensures.reads

pub returns-clause-bad : goal.returns-clause-bad
returns-clause-bad g c = let v = g.D.Disk.view in let old = v c.args.disk.now in let mid = v c.loop-number.disk in let so_far = c.loop-number.invariant in
    λ named slot is t journals there. let was = so_far.passed t journals there in
    let none = no_more_copies c.args.copies.now c.loop-number.number-index was.copy c.loop-number-test.false in
    let found = last_next old.content c.args.copies.now c.args.at journals c.loop-number.number-index c.loop-number.reached was none in
    let there_now = journal_there old.content mid.content aij_file found.journal (λ s. (so_far.reads.keeps t).content aij_file s) found.here in
    let here = subst (λ (f : FileId). IsJournalIn mid.content f found.journal) (sym c.aij_file.ensures) there_now in
    c.pass_next-2.ensures.bad named slot is (still_tells old mid so_far.reads.told t) found.journal here

pub returns-clause-gap : goal.returns-clause-gap
returns-clause-gap g c = let v = g.D.Disk.view in let old = v c.args.disk.now in let mid = v c.loop-number.disk in let so_far = c.loop-number.invariant in
    λ at is t journals there. let was = so_far.passed t journals there in
    let none = no_more_copies c.args.copies.now c.loop-number.number-index was.copy c.loop-number-test.false in
    let found = last_next old.content c.args.copies.now c.args.at journals c.loop-number.number-index c.loop-number.reached was none in
    let there_now = journal_there old.content mid.content aij_file found.journal (λ s. (so_far.reads.keeps t).content aij_file s) found.here in
    let here = subst (λ (f : FileId). IsJournalIn mid.content f found.journal) (sym c.aij_file.ensures) there_now in
    gap_left c.args.at c.loop-number.reached c.loop-number.reached journals was.left was.groups was.follows was.last was.ceiling old.content aij_file [] found
    (c.pass_next-2.ensures.gap at is (still_tells old mid so_far.reads.told t) found.journal here)
    ∙ ap gap (sym (c.pass_next-2.ensures.missing at is))

pub returns-clause-reached : goal.returns-clause-reached
returns-clause-reached g c = let v = g.D.Disk.view in let old = v c.args.disk.now in let mid = v c.loop-number.disk in let so_far = c.loop-number.invariant in
    if_ok _ _ c.pass_next-2.result (λ reached reaches t journals there. let was = so_far.passed t journals there in
    let none = no_more_copies c.args.copies.now c.loop-number.number-index was.copy c.loop-number-test.false in
    let found = last_next old.content c.args.copies.now c.args.at journals c.loop-number.number-index c.loop-number.reached was none in
    let there_now = journal_there old.content mid.content aij_file found.journal (λ s. (so_far.reads.keeps t).content aij_file s) found.here in
    let here = subst (λ (f : FileId). IsJournalIn mid.content f found.journal) (sym c.aij_file.ensures) there_now in
    let so = reaches (still_tells old mid so_far.reads.told t) found.journal here in
    passed_all old.content c.args.copies.now c.args.at journals c.loop-number.number-index c.loop-number.reached was none reached so.begins so.is) c.pass_next-2.ensures.reached

pub returns-clause-grows : goal.returns-clause-grows
returns-clause-grows g c = let before = c.loop-number.invariant.grows in
    if_ok _ _ c.pass_next-2.result (λ reached now. omega (arith, before, now)) c.pass_next-2.ensures.grows

pub returns-clause-above : goal.returns-clause-above
returns-clause-above g c = let before = c.loop-number.invariant.above in
    if_ok _ _ c.pass_next-2.result (λ reached now. omega (arith, before, now)) c.pass_next-2.ensures.above
