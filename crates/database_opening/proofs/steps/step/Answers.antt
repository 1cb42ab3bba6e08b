use Rattle.std.proofs.Common.{◌<◌, IsTrue, refl, sym, subst, arith}
use Rattle.rdb_outside.specs.Disk.{IsStable}
use Rattle.line_opening.specs.stable_lines.Opening.{found}
use Rattle.line_opening.proofs.Counted.{if_ok}
use Rattle.line_opening.proofs.Standing.{stands_now, read_stands}
use Rattle.database_opening.specs.Stages.{IsStage, OpeningFacts, steps_left}
use Rattle.database_opening.specs.declared.stages.OpeningStage.{OpeningStage}
use Rattle.database_opening.proofs.Counts.{both_ok}
use Rattle.database_opening.proofs.Undone.{leaves_kept}
use Rattle.database_opening.proofs.Closed.{restored, ended}
use Rattle.line_opening.proofs.of_line_moves.PageClasses.{classes_read}
use Rattle.database_opening.proofs.Pages.{untouched_read}
use Rattle.database_opening.proofs.Others.{file_unused, file_read}
use Rattle.database_opening.proofs.steps.step.Goals as goal

pub undo_entries-requires : goal.undo_entries-requires
undo_entries-requires g c = subst (λ (s : OpeningStage). IsStage s) c.in-Undoing.is c.requires

pub close_header-requires : goal.close_header-requires
close_header-requires g c = subst (λ (s : OpeningStage). IsStage s) c.in-Closing.is c.requires

pub returns-in-Undoing-clause-bad : goal.returns-in-Undoing-clause-bad
returns-in-Undoing-clause-bad g c = let old = g.D.Disk.view c.args.disk.now in λ file slot bad t classes lines journal F.
    c.undo_entries.ensures.bad file slot bad t classes lines journal (subst (λ (s : OpeningStage). OpeningFacts classes lines journal s old c.args.found.now) c.in-Undoing.is F)

pub returns-in-Undoing-clause-goes_on : goal.returns-in-Undoing-clause-goes_on
returns-in-Undoing-clause-goes_on g c = let old = g.D.Disk.view c.args.disk.now in
    if_ok _ _ c.undo_entries.result (λ next on t classes lines journal F. on t classes lines journal (subst (λ (s : OpeningStage). OpeningFacts classes lines journal s old c.args.found.now) c.in-Undoing.is F)) c.undo_entries.ensures.goes_on

pub returns-in-Undoing-clause-stands : goal.returns-in-Undoing-clause-stands
returns-in-Undoing-clause-stands g c = let old = g.D.Disk.view c.args.disk.now in λ t classes lines journal F.
    c.undo_entries.ensures.stands t classes lines journal (subst (λ (s : OpeningStage). OpeningFacts classes lines journal s old c.args.found.now) c.in-Undoing.is F)

pub returns-in-Closing-clause-bad : goal.returns-in-Closing-clause-bad
returns-in-Closing-clause-bad g c = let old = g.D.Disk.view c.args.disk.now in λ file slot bad t classes lines journal F.
    c.close_header.ensures.bad file slot bad t classes lines journal c.args.found.now (subst (λ (s : OpeningStage). OpeningFacts classes lines journal s old c.args.found.now) c.in-Closing.is F)

pub returns-in-Closing-clause-goes_on : goal.returns-in-Closing-clause-goes_on
returns-in-Closing-clause-goes_on g c = let old = g.D.Disk.view c.args.disk.now in
    if_ok _ _ c.close_header.result (λ next on t classes lines journal F. on t classes lines journal c.args.found.now (subst (λ (s : OpeningStage). OpeningFacts classes lines journal s old c.args.found.now) c.in-Closing.is F)) c.close_header.ensures.goes_on

pub returns-in-Closing-clause-stands : goal.returns-in-Closing-clause-stands
returns-in-Closing-clause-stands g c = let old = g.D.Disk.view c.args.disk.now in λ t classes lines journal F.
    c.close_header.ensures.stands t classes lines journal c.args.found.now (subst (λ (s : OpeningStage). OpeningFacts classes lines journal s old c.args.found.now) c.in-Closing.is F)

pub returns-in-Restoring-clause-bad : goal.returns-in-Restoring-clause-bad
returns-in-Restoring-clause-bad g c = λ file slot bad t classes lines journal F. c.go_on_stable.ensures.bad file slot bad

pub returns-in-Restoring-clause-stage : goal.returns-in-Restoring-clause-stage
returns-in-Restoring-clause-stage g c = if_ok _ _ c.go_on_stable.result (λ next is. subst (λ (s : OpeningStage). IsStage s) (sym is) (record { first = omega arith; last = omega arith })) c.go_on_stable.ensures.next

pub returns-in-Restoring-clause-goes_on : goal.returns-in-Restoring-clause-goes_on
returns-in-Restoring-clause-goes_on g c = let v = g.D.Disk.view in let old = v c.args.disk.now in let new = v c.go_on_stable.new.disk in let read = c.args.found.now in
    both_ok _ _ (IsTrue old.tells → IsStable new) c.go_on_stable.result (λ next is stable t classes lines journal F.
    subst (λ (s : OpeningStage). OpeningFacts classes lines journal s new read) (sym is)
    (restored classes lines journal read old new (subst (λ (s : OpeningStage). OpeningFacts classes lines journal s old read) c.in-Restoring.is F) c.go_on_stable.ensures.reads t (stable t)))
    c.go_on_stable.ensures.next c.go_on_stable.ensures.stable

pub returns-in-Restoring-clause-stands : goal.returns-in-Restoring-clause-stands
returns-in-Restoring-clause-stands g c = let v = g.D.Disk.view in let old = v c.args.disk.now in let new = v c.go_on_stable.new.disk in let read = c.args.found.now in
    λ t classes lines journal F. leaves_kept classes lines journal read.root F.going old new (read_stands old new (found classes lines journal read.root F.going) c.go_on_stable.ensures.reads t F.facts)

pub returns-in-Ending-clause-bad : goal.returns-in-Ending-clause-bad
returns-in-Ending-clause-bad g c = λ file slot bad t classes lines journal F. c.go_on_stable-in-Ending.ensures.bad file slot bad

pub returns-in-Ending-clause-stage : goal.returns-in-Ending-clause-stage
returns-in-Ending-clause-stage g c = if_ok _ _ c.go_on_stable-in-Ending.result (λ next is. subst (λ (s : OpeningStage). IsStage s) (sym is) tt) c.go_on_stable-in-Ending.ensures.next

pub returns-in-Ending-clause-goes_on : goal.returns-in-Ending-clause-goes_on
returns-in-Ending-clause-goes_on g c = let v = g.D.Disk.view in let old = v c.args.disk.now in let new = v c.go_on_stable-in-Ending.new.disk in let read = c.args.found.now in
    both_ok _ _ (IsTrue old.tells → IsStable new) c.go_on_stable-in-Ending.result (λ next is stable t classes lines journal F.
    subst (λ (s : OpeningStage). OpeningFacts classes lines journal s new read) (sym is)
    (ended classes lines journal read old new (subst (λ (s : OpeningStage). OpeningFacts classes lines journal s old read) c.in-Ending.is F) c.go_on_stable-in-Ending.ensures.reads t (stable t)))
    c.go_on_stable-in-Ending.ensures.next c.go_on_stable-in-Ending.ensures.stable

pub returns-in-Ending-clause-stands : goal.returns-in-Ending-clause-stands
returns-in-Ending-clause-stands g c = let v = g.D.Disk.view in let old = v c.args.disk.now in let new = v c.go_on_stable-in-Ending.new.disk in let read = c.args.found.now in
    λ t classes lines journal F. leaves_kept classes lines journal read.root F.going old new (read_stands old new (found classes lines journal read.root F.going) c.go_on_stable-in-Ending.ensures.reads t F.facts)

pub returns-in-Opened-clause-goes_on : goal.returns-in-Opened-clause-goes_on
returns-in-Opened-clause-goes_on g c = let old = g.D.Disk.view c.args.disk.now in λ t classes lines journal F. subst (λ (s : OpeningStage). OpeningFacts classes lines journal s old c.args.found.now) c.in-Opened.is F

pub returns-in-Opened-clause-stands : goal.returns-in-Opened-clause-stands
returns-in-Opened-clause-stands g c = let old = g.D.Disk.view c.args.disk.now in let read = c.args.found.now in
    λ t classes lines journal F. leaves_kept classes lines journal read.root F.going old old (stands_now old (found classes lines journal read.root F.going) F.facts)

pub returns-in-Undoing-clause-nearer : goal.returns-in-Undoing-clause-nearer
returns-in-Undoing-clause-nearer g c = let counts = c.args.found.now.counts in
    if_ok _ _ c.undo_entries.result (λ next less off. subst (λ (s : OpeningStage). steps_left counts next < steps_left counts s) (sym c.in-Undoing.is) less) c.undo_entries.ensures.nearer

pub returns-in-Closing-clause-nearer : goal.returns-in-Closing-clause-nearer
returns-in-Closing-clause-nearer g c = let counts = c.args.found.now.counts in
    if_ok _ _ c.close_header.result (λ next less off. subst (λ (s : OpeningStage). steps_left counts next < steps_left counts s) (sym c.in-Closing.is) (less counts)) c.close_header.ensures.nearer

pub returns-in-Restoring-clause-nearer : goal.returns-in-Restoring-clause-nearer
returns-in-Restoring-clause-nearer g c = let counts = c.args.found.now.counts in
    if_ok _ _ c.go_on_stable.result (λ next is off. subst (λ (s : OpeningStage). steps_left counts next < steps_left counts s) (sym c.in-Restoring.is) (subst (λ (n : OpeningStage). steps_left counts n < 19) (sym is) (omega arith))) c.go_on_stable.ensures.next

pub returns-in-Ending-clause-nearer : goal.returns-in-Ending-clause-nearer
returns-in-Ending-clause-nearer g c = let counts = c.args.found.now.counts in
    if_ok _ _ c.go_on_stable-in-Ending.result (λ next is off. subst (λ (s : OpeningStage). steps_left counts next < steps_left counts s) (sym c.in-Ending.is) (subst (λ (n : OpeningStage). steps_left counts n < 1) (sym is) (omega arith))) c.go_on_stable-in-Ending.ensures.next

pub returns-in-Opened-clause-nearer : goal.returns-in-Opened-clause-nearer
returns-in-Opened-clause-nearer g c = λ off. absurd (off c.in-Opened.is)

pub returns-in-Undoing-clause-classes : goal.returns-in-Undoing-clause-classes
returns-in-Undoing-clause-classes g c = let old = g.D.Disk.view c.args.disk.now in λ t classes lines journal F by_area lie.
    c.undo_entries.ensures.classes t classes lines journal (subst (λ (s : OpeningStage). OpeningFacts classes lines journal s old c.args.found.now) c.in-Undoing.is F) by_area lie

pub returns-in-Closing-clause-classes : goal.returns-in-Closing-clause-classes
returns-in-Closing-clause-classes g c = λ t classes lines journal F by_area lie. c.close_header.ensures.classes t by_area lie

pub returns-in-Restoring-clause-classes : goal.returns-in-Restoring-clause-classes
returns-in-Restoring-clause-classes g c = let v = g.D.Disk.view in λ t classes lines journal F by_area lie.
    classes_read by_area (v c.args.disk.now) (v c.go_on_stable.new.disk) c.go_on_stable.ensures.reads t lie

pub returns-in-Restoring-clause-untouched : goal.returns-in-Restoring-clause-untouched
returns-in-Restoring-clause-untouched g c = let v = g.D.Disk.view in λ t.
    untouched_read (v c.args.disk.now) (v c.go_on_stable.new.disk) c.go_on_stable.ensures.reads t

pub returns-in-Ending-clause-classes : goal.returns-in-Ending-clause-classes
returns-in-Ending-clause-classes g c = let v = g.D.Disk.view in λ t classes lines journal F by_area lie.
    classes_read by_area (v c.args.disk.now) (v c.go_on_stable-in-Ending.new.disk) c.go_on_stable-in-Ending.ensures.reads t lie

pub returns-in-Ending-clause-untouched : goal.returns-in-Ending-clause-untouched
returns-in-Ending-clause-untouched g c = let v = g.D.Disk.view in λ t.
    untouched_read (v c.args.disk.now) (v c.go_on_stable-in-Ending.new.disk) c.go_on_stable-in-Ending.ensures.reads t

pub returns-in-Opened-clause-untouched : goal.returns-in-Opened-clause-untouched
returns-in-Opened-clause-untouched g c = λ t. record { root = refl; spaces = λ file page is space. refl }

pub returns-in-Restoring-clause-others : goal.returns-in-Restoring-clause-others
returns-in-Restoring-clause-others g c = let v = g.D.Disk.view in λ t file other.
    file_read (v c.args.disk.now) (v c.go_on_stable.new.disk) c.go_on_stable.ensures.reads t file

pub returns-in-Ending-clause-others : goal.returns-in-Ending-clause-others
returns-in-Ending-clause-others g c = let v = g.D.Disk.view in λ t file other.
    file_read (v c.args.disk.now) (v c.go_on_stable-in-Ending.new.disk) c.go_on_stable-in-Ending.ensures.reads t file

pub returns-in-Opened-clause-others : goal.returns-in-Opened-clause-others
returns-in-Opened-clause-others g c = λ t file other. file_unused (g.D.Disk.view c.args.disk.now) t file
