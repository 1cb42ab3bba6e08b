use Rattle.std.proofs.Common.{rules, ◌≡◌, ◌≢◌, ◌≤◌, ◌<◌, ◌+◌, ◌-◌, ◌∙◌, ℕ, get_or, ⊎_elim, ◌⊎◌, sym, refl, ap, subst, arith}
use Rattle.line_opening.specs.stable_lines.Opening.{found}
use Rattle.line_opening.proofs.Standing.{stands_now}
use Rattle.database_opening.specs.Stages.{OpeningFacts}
use Rattle.database_opening.specs.declared.stages.OpeningStage.{OpeningStage}
use Rattle.database_opening.specs.declared.stages.OpeningStage.TheVariants.{Undoing}
use Rattle.database_opening.proofs.Undone.{there, may, its_tsn, fewer_left, next_member, all_undone, leaves_kept}
use Rattle.database_opening.proofs.Pages.{page_untouched}
use Rattle.database_opening.proofs.Others.{file_unused, page_apart}
use Rattle.database_opening.proofs.steps.undo_entries.Goals as goal

cases : (a b : ℕ) → (a ≤ b) ⊎ (b < a)
cases a b = grind arith

pub returns-then-entries-eq0-clause-goes_on : goal.returns-then-entries-eq0-clause-goes_on
returns-then-entries-eq0-clause-goes_on g c = let old = g.D.Disk.view c.args.disk.now in let read = c.args.found.now in let member = c.args.member in
    λ t classes lines journal F.
    let none : c.args.entries ≡ 0 = search rules in
    ⊎_elim
    (λ last. subst (λ (s : OpeningStage). OpeningFacts classes lines journal s old read) (sym (c.behind.ensures.last last)) (all_undone classes lines journal read member c.args.entries old F none last))
    (λ less.
    let back : member + 1 - 1 ≡ member = omega arith in
    let first = c.requires.first in
    subst (λ (s : OpeningStage). OpeningFacts classes lines journal s old read) (sym (c.behind.ensures.next less ∙ ap (λ (n : ℕ). Undoing (member + 1) (get_or read.counts n 0)) (sym back)))
    (next_member classes lines journal read member c.args.entries old F none (record { first = omega arith; last = omega (arith, less) })))
    (cases 16 member)

pub returns-then-entries-eq0-clause-stands : goal.returns-then-entries-eq0-clause-stands
returns-then-entries-eq0-clause-stands g c = let old = g.D.Disk.view c.args.disk.now in let read = c.args.found.now in
    λ t classes lines journal F. leaves_kept classes lines journal read.root F.going old old (stands_now old (found classes lines journal read.root F.going) F.facts)

pub returns-in_err-rest-clause-bad : goal.returns-in_err-rest-clause-bad
returns-in_err-rest-clause-bad g c = let old = g.D.Disk.view c.args.disk.now in let read = c.args.found.now in let member = c.args.member in let entries = c.args.entries in
    λ file slot is t classes lines journal F.
    let o = there classes lines journal read member entries old F (let off : entries ≢ 0 = search rules in omega (arith, off)) in
    c.undo_next.ensures.bad file slot (search rules) t (found classes lines journal read.root F.going) o.0 (may classes lines journal read member entries old F o.0 read.root.limits.pages o.1 refl)
    (its_tsn classes lines journal read member entries old F o.0 _ o.1 refl)

pub returns-in_err-rest-clause-stands : goal.returns-in_err-rest-clause-stands
returns-in_err-rest-clause-stands g c = let v = g.D.Disk.view in let old = v c.args.disk.now in let new = v c.undo_next.new.disk in let read = c.args.found.now in let member = c.args.member in let entries = c.args.entries in
    λ t classes lines journal F.
    let o = there classes lines journal read member entries old F (let off : entries ≢ 0 = search rules in omega (arith, off)) in
    leaves_kept classes lines journal read.root F.going old new
    (c.undo_next.ensures.stands t (found classes lines journal read.root F.going) o.0 (may classes lines journal read member entries old F o.0 read.root.limits.pages o.1 refl)
    (its_tsn classes lines journal read member entries old F o.0 _ o.1 refl))

pub returns-clause-stands : goal.returns-clause-stands
returns-clause-stands g c = let v = g.D.Disk.view in let old = v c.args.disk.now in let new = v c.undo_next.new.disk in let read = c.args.found.now in let member = c.args.member in let entries = c.args.entries in
    λ t classes lines journal F.
    let o = there classes lines journal read member entries old F (let off : entries ≢ 0 = search rules in omega (arith, off)) in
    leaves_kept classes lines journal read.root F.going old new
    (c.undo_next.ensures.stands t (found classes lines journal read.root F.going) o.0 (may classes lines journal read member entries old F o.0 read.root.limits.pages o.1 refl)
    (its_tsn classes lines journal read member entries old F o.0 _ o.1 refl))

pub returns-clause-goes_on : goal.returns-clause-goes_on
returns-clause-goes_on g c = let v = g.D.Disk.view in let old = v c.args.disk.now in let new = v c.undo_next.new.disk in let read = c.args.found.now in let member = c.args.member in let entries = c.args.entries in
    λ t classes lines journal F.
    let some : 1 ≤ entries = (let off : entries ≢ 0 = search rules in omega (arith, off)) in
    let o = there classes lines journal read member entries old F some in
    let now = found classes lines journal read.root F.going in
    let ready = may classes lines journal read member entries old F o.0 read.root.limits.pages o.1 refl in
    let tsn = its_tsn classes lines journal read member entries old F o.0 _ o.1 refl in
    fewer_left classes lines journal read member entries old F o.0 new c.in_ok-rest.rest o.1 (c.in_ok-rest.ensures.fewer some)
    (c.undo_next.ensures.keeps t now o.0 ready tsn)
    (c.in_ok-rest.ensures.undone t now o.0 ready tsn (F.done.undone o.0 o.1))
    (λ key. c.in_ok-rest.ensures.ended t now o.0 key ready tsn)

pub returns-then-entries-eq0-clause-nearer : goal.returns-then-entries-eq0-clause-nearer
returns-then-entries-eq0-clause-nearer g c = c.behind.ensures.nearer c.args.entries

pub returns-then-entries-eq0-clause-classes : goal.returns-then-entries-eq0-clause-classes
returns-then-entries-eq0-clause-classes g c = λ t classes lines journal F by_area lie. lie

pub returns-then-entries-eq0-clause-untouched : goal.returns-then-entries-eq0-clause-untouched
returns-then-entries-eq0-clause-untouched g c = λ t. record { root = refl; spaces = λ file page is space. refl }

pub returns-in_err-rest-clause-classes : goal.returns-in_err-rest-clause-classes
returns-in_err-rest-clause-classes g c = let read = c.args.found.now in λ t classes lines journal F by_area lie.
    c.undo_next.ensures.classes t (found classes lines journal read.root F.going) F.facts by_area lie

pub returns-in_err-rest-clause-untouched : goal.returns-in_err-rest-clause-untouched
returns-in_err-rest-clause-untouched g c = let v = g.D.Disk.view in let old = v c.args.disk.now in let new = v c.undo_next.new.disk in let writes = c.undo_next.ensures.writes in
    λ t. page_untouched old new writes.0 writes.1 writes.2 writes.3 t

pub returns-clause-classes : goal.returns-clause-classes
returns-clause-classes g c = let read = c.args.found.now in λ t classes lines journal F by_area lie.
    c.undo_next.ensures.classes t (found classes lines journal read.root F.going) F.facts by_area lie

pub returns-clause-untouched : goal.returns-clause-untouched
returns-clause-untouched g c = let v = g.D.Disk.view in let old = v c.args.disk.now in let new = v c.undo_next.new.disk in let writes = c.undo_next.ensures.writes in
    λ t. page_untouched old new writes.0 writes.1 writes.2 writes.3 t

pub returns-then-entries-eq0-clause-others : goal.returns-then-entries-eq0-clause-others
returns-then-entries-eq0-clause-others g c = λ t file other. file_unused (g.D.Disk.view c.args.disk.now) t file

pub returns-in_err-rest-clause-others : goal.returns-in_err-rest-clause-others
returns-in_err-rest-clause-others g c = let v = g.D.Disk.view in let writes = c.undo_next.ensures.writes in
    page_apart (v c.args.disk.now) (v c.undo_next.new.disk) writes.0 writes.1 writes.3

pub returns-clause-others : goal.returns-clause-others
returns-clause-others g c = let v = g.D.Disk.view in let writes = c.undo_next.ensures.writes in
    page_apart (v c.args.disk.now) (v c.undo_next.new.disk) writes.0 writes.1 writes.3
