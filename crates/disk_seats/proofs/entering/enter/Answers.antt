use Rattle.std.proofs.Common.{◌≤◌, sym, subst}
use Rattle.line_opening.proofs.of_line_moves.Runs.{on_ok}
use Rattle.line_opening.proofs.of_line_moves.PageClasses.{classes_beside_space_of, owners_beside_space}
use Rattle.disk_seats.specs.Ledgers.{progress_of}
use Rattle.disk_seats.proofs.Progresses.{same_limits}
use Rattle.disk_seats.proofs.Entered.{space_behind, owned_more}
use Rattle.disk_seats.proofs.entering.enter.Goals as goal

pub returns-clause-keeps : goal.returns-clause-keeps
returns-clause-keeps g c = let v = g.D.Disk.view in λ t ledger was none for_area within.
    let old = v c.args.disk.now in let new = v c.enter_page.new.disk in
    space_behind old new c.args.place.file _ ledger t c.enter_page.ensures.writes was none (c.enter_page.ensures.lines t (progress_of ledger) was.facts)
    (c.enter_page.ensures.keeps t (progress_of ledger) was.facts for_area (subst (λ l. c.args.place.page ≤ l.pages) (sym (same_limits old ledger was)) within))

pub returns-clause-owned : goal.returns-clause-owned
returns-clause-owned g c = let v = g.D.Disk.view in
    on_ok _ _ c.enter_page.result (λ entered t lines at line got its same one was.
    owned_more (v c.args.disk.now) (v c.enter_page.new.disk) t c.args.place c.args.area c.requires.page c.enter_page.ensures.writes (entered t) (c.enter_page.ensures.beside t) lines at line got its same one was) c.enter_page.ensures.entered

pub returns-clause-lines : goal.returns-clause-lines
returns-clause-lines g c = λ t ledger was. c.enter_page.ensures.lines t (progress_of ledger) was.facts

pub returns-clause-classes : goal.returns-clause-classes
returns-clause-classes g c = let v = g.D.Disk.view in
    λ t classes had. classes_beside_space_of classes (v c.args.disk.now) (v c.enter_page.new.disk) c.args.place.file c.args.place.page t c.requires.page c.enter_page.ensures.writes had

pub returns-clause-owners : goal.returns-clause-owners
returns-clause-owners g c = let v = g.D.Disk.view in
    λ t there area is_data. owners_beside_space (v c.args.disk.now) (v c.enter_page.new.disk) c.args.place.file c.args.place.page t c.requires.page c.enter_page.ensures.writes there area is_data
