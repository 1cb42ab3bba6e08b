use Rattle.std.proofs.Common.{rules}
use Rattle.line_moves.proofs.Runs.{still_tells}
use Rattle.database_opening.proofs.Others.{file_on}
use Rattle.rmu_keeping.proofs.Opened.{is_aside, copy_not_spent, journal_in_use, copying_begins, copying_ends}
use Rattle.rmu_keeping.proofs.copying.open_and_copy.Goals as goal

pub returns-in_err-start-clause-bad : goal.returns-in_err-start-clause-bad
returns-in_err-start-clause-bad g c = λ file slot is t classes lines journal kept numbers. c.open_in_use.ensures.bad file slot (search rules) t classes lines journal kept numbers

pub returns-in_err-start-clause-within : goal.returns-in_err-start-clause-within
returns-in_err-start-clause-within g c = let v = g.D.Disk.view in
    λ t classes lines journal kept. copying_begins classes lines journal journal c.args.number (v c.args.disk.now) (v c.open_in_use.new.disk) (c.open_in_use.ensures.within t classes lines journal kept)

pub returns-in_err-start-clause-others : goal.returns-in_err-start-clause-others
returns-in_err-start-clause-others g c = λ t file kept apart. c.open_in_use.ensures.others t file kept

pub returns-in_err-back_up_journal-clause-bad : goal.returns-in_err-back_up_journal-clause-bad
returns-in_err-back_up_journal-clause-bad g c = let v = g.D.Disk.view in let old = v c.args.disk.now in let mid = v c.open_in_use.new.disk in
    λ file slot is t classes lines journal kept numbers. let used = c.in_ok-start.ensures.used t classes lines journal kept in
    copy_not_spent classes lines journal mid c.in_ok-start.start used (c.back_up_journal.ensures.bad file slot (search rules)) numbers

pub returns-in_err-back_up_journal-clause-within : goal.returns-in_err-back_up_journal-clause-within
returns-in_err-back_up_journal-clause-within g c = let v = g.D.Disk.view in let old = v c.args.disk.now in let mid = v c.open_in_use.new.disk in
    λ t classes lines journal kept. let used = c.in_ok-start.ensures.used t classes lines journal kept in
    copying_ends classes lines journal used.its c.args.number old mid (c.open_in_use.ensures.within t classes lines journal kept) (journal_in_use classes lines journal mid c.in_ok-start.start used) (v c.back_up_journal.new.disk)
    (c.back_up_journal.ensures.within (still_tells old mid c.open_in_use.ensures.told t) classes lines used.its used.start)

pub returns-in_err-back_up_journal-clause-others : goal.returns-in_err-back_up_journal-clause-others
returns-in_err-back_up_journal-clause-others g c = let v = g.D.Disk.view in let old = v c.args.disk.now in let mid = v c.open_in_use.new.disk in
    λ t file kept apart. file_on old mid (v c.back_up_journal.new.disk) file (c.open_in_use.ensures.others t file kept) (c.back_up_journal.ensures.others (still_tells old mid c.open_in_use.ensures.told t) file (is_aside c.args.number file kept apart))

pub returns-clause-within : goal.returns-clause-within
returns-clause-within g c = let v = g.D.Disk.view in let old = v c.args.disk.now in let mid = v c.open_in_use.new.disk in
    λ t classes lines journal kept. let used = c.in_ok-start.ensures.used t classes lines journal kept in
    copying_ends classes lines journal used.its c.args.number old mid (c.open_in_use.ensures.within t classes lines journal kept) (journal_in_use classes lines journal mid c.in_ok-start.start used) (v c.back_up_journal.new.disk)
    (c.back_up_journal.ensures.within (still_tells old mid c.open_in_use.ensures.told t) classes lines used.its used.start)

pub returns-clause-others : goal.returns-clause-others
returns-clause-others g c = let v = g.D.Disk.view in let old = v c.args.disk.now in let mid = v c.open_in_use.new.disk in
    λ t file kept apart. file_on old mid (v c.back_up_journal.new.disk) file (c.open_in_use.ensures.others t file kept) (c.back_up_journal.ensures.others (still_tells old mid c.open_in_use.ensures.told t) file (is_aside c.args.number file kept apart))

pub returns-clause-copied : goal.returns-clause-copied
returns-clause-copied g c = let v = g.D.Disk.view in let old = v c.args.disk.now in let mid = v c.open_in_use.new.disk in
    λ t classes lines journal kept image left. let used = c.in_ok-start.ensures.used t classes lines journal kept in
    record { its = used.its; in_use = journal_in_use classes lines journal mid c.in_ok-start.start used; copied = c.in_ok-back_up_journal.ensures.backed_up (still_tells old mid c.open_in_use.ensures.told t) classes lines used.its used.start image left }
