use Rattle.std.proofs.Common.{rules}
use Rattle.line_moves.proofs.Runs.{on_ok, still_tells}
use Rattle.database_opening.proofs.Others.{file_on}
use Rattle.rmu_keeping.proofs.Opened.{backup_kept, next_in_use, might_still, backing_begins, backing_ends}
use Rattle.rmu_keeping.proofs.backing.open_and_back_up.Goals as goal

pub returns-in_err-start-clause-bad : goal.returns-in_err-start-clause-bad
returns-in_err-start-clause-bad g c = λ file slot is t classes lines journal kept numbers. c.open_in_use.ensures.bad file slot (search rules) t classes lines journal kept numbers

pub returns-in_err-start-clause-within : goal.returns-in_err-start-clause-within
returns-in_err-start-clause-within g c = let v = g.D.Disk.view in
    λ t classes lines journal kept former might.
    backing_begins classes lines former c.args.number (v c.args.disk.now) (v c.open_in_use.new.disk) might (c.open_in_use.ensures.others t _ (backup_kept c.args.number)) (c.open_in_use.ensures.within t classes lines journal kept)

pub returns-in_err-start-clause-others : goal.returns-in_err-start-clause-others
returns-in_err-start-clause-others g c = λ t file kept apart. c.open_in_use.ensures.others t file kept

pub returns-clause-bad : goal.returns-clause-bad
returns-clause-bad g c = let v = g.D.Disk.view in let old = v c.args.disk.now in let mid = v c.open_in_use.new.disk in
    λ file slot is t classes lines journal kept numbers.
    let used = c.in_ok-start.ensures.used t classes lines journal kept in
    c.back_up.ensures.bad file slot is (still_tells old mid c.open_in_use.ensures.told t) classes lines used.its used.start (next_in_use classes lines journal mid c.in_ok-start.start used numbers)

pub returns-clause-backed_up : goal.returns-clause-backed_up
returns-clause-backed_up g c = let v = g.D.Disk.view in let old = v c.args.disk.now in let mid = v c.open_in_use.new.disk in
    on_ok _ _ c.back_up.result (λ done t classes lines journal kept.
    let used = c.in_ok-start.ensures.used t classes lines journal kept in
    done (still_tells old mid c.open_in_use.ensures.told t) classes lines used.its used.start) c.back_up.ensures.backed_up

pub returns-clause-within : goal.returns-clause-within
returns-clause-within g c = let v = g.D.Disk.view in let old = v c.args.disk.now in let mid = v c.open_in_use.new.disk in
    λ t classes lines journal kept former might.
    let used = c.in_ok-start.ensures.used t classes lines journal kept in
    let keeps = c.open_in_use.ensures.others t _ (backup_kept c.args.number) in
    let leaves = c.open_in_use.ensures.within t classes lines journal kept in
    backing_ends classes lines former c.args.number old mid might keeps leaves (v c.back_up.new.disk)
    (c.back_up.ensures.within (still_tells old mid c.open_in_use.ensures.told t) classes lines used.its used.start former (might_still classes lines former c.args.number old mid might keeps leaves))

pub returns-clause-others : goal.returns-clause-others
returns-clause-others g c = let v = g.D.Disk.view in let old = v c.args.disk.now in let mid = v c.open_in_use.new.disk in
    λ t file kept apart. file_on old mid (v c.back_up.new.disk) file (c.open_in_use.ensures.others t file kept) (c.back_up.ensures.others (still_tells old mid c.open_in_use.ensures.told t) file apart)
