use Rattle.std.proofs.Common.{rules, sym, subst}
use Rattle.line_moves.proofs.Runs.{on_ok, still_tells}
use Rattle.database_opening.proofs.Others.{file_on}
use Rattle.whole_backup.specs.BackedUp.{IsNumbered}
use Rattle.whole_backup.proofs.Opening.{is_other, might_still, opening_within, whole_within}
use Rattle.whole_backup.proofs.opened.open_and_back_up.Goals as goal

pub returns-in_err-start-clause-bad : goal.returns-in_err-start-clause-bad
returns-in_err-start-clause-bad g c = λ file slot is t classes lines journal kept numbered. c.open_database.ensures.bad file slot (search rules) t classes lines journal kept

pub returns-in_err-start-clause-within : goal.returns-in_err-start-clause-within
returns-in_err-start-clause-within g c = let v = g.D.Disk.view in let old = v c.args.disk.now in let mid = v c.open_database.new.disk in let number = c.args.number in
    λ t classes lines journal kept former might.
    opening_within classes lines journal former number old mid might (c.open_database.ensures.others t _ (is_other number)) (c.open_database.ensures.stands t classes lines journal kept)

pub returns-in_err-start-clause-others : goal.returns-in_err-start-clause-others
returns-in_err-start-clause-others g c = λ t file other apart. c.open_database.ensures.others t file other

pub returns-clause-bad : goal.returns-clause-bad
returns-clause-bad g c = let v = g.D.Disk.view in let old = v c.args.disk.now in let mid = v c.open_database.new.disk in
    λ file slot is t classes lines journal kept numbered.
    let begins = c.in_ok-start.ensures.begins t classes lines journal kept in
    c.back_up.ensures.bad file slot is (still_tells old mid c.open_database.ensures.told t) classes lines journal begins (subst IsNumbered (sym begins.next.numbered) numbered)

pub returns-clause-backed_up : goal.returns-clause-backed_up
returns-clause-backed_up g c = let v = g.D.Disk.view in let old = v c.args.disk.now in let mid = v c.open_database.new.disk in
    on_ok _ _ c.back_up.result (λ done t classes lines journal kept. done (still_tells old mid c.open_database.ensures.told t) classes lines journal (c.in_ok-start.ensures.begins t classes lines journal kept)) c.back_up.ensures.backed_up

pub returns-clause-within : goal.returns-clause-within
returns-clause-within g c = let v = g.D.Disk.view in let old = v c.args.disk.now in let mid = v c.open_database.new.disk in let number = c.args.number in
    λ t classes lines journal kept former might.
    let keeps = c.open_database.ensures.others t _ (is_other number) in
    whole_within classes lines journal former number old mid might keeps (c.open_database.ensures.stands t classes lines journal kept) (v c.back_up.new.disk)
    (c.back_up.ensures.within (still_tells old mid c.open_database.ensures.told t) classes lines journal (c.in_ok-start.ensures.begins t classes lines journal kept) former (might_still classes lines journal former number old mid might keeps))

pub returns-clause-others : goal.returns-clause-others
returns-clause-others g c = let v = g.D.Disk.view in let old = v c.args.disk.now in let mid = v c.open_database.new.disk in
    λ t file other apart. file_on old mid (v c.back_up.new.disk) file (c.open_database.ensures.others t file other) (c.back_up.ensures.others (still_tells old mid c.open_database.ensures.told t) file apart)
