use Rattle.std.proofs.Common.{rules, ◌≤◌, ◌<◌, arith}
use Rattle.line_opening.specs.stable_lines.Slots.{ruj_file}
use Rattle.line_opening.specs.stable_lines.Opening.{found}
use Rattle.line_opening.proofs.of_line_moves.Runs.{pends}
use Rattle.line_opening.proofs.Standing.{written_stands}
use Rattle.database_opening.proofs.Undone.{leaves_kept}
use Rattle.database_opening.proofs.Closed.{some_number, closed_on, all_closed}
use Rattle.database_opening.proofs.Pages.{classes_beside, untouched_beside}
use Rattle.database_opening.proofs.Others.{header_apart}
use Rattle.database_opening.proofs.steps.close_header.Goals as goal

pub returns-in_err-next-clause-bad : goal.returns-in_err-next-clause-bad
returns-in_err-next-clause-bad g c = let old = g.D.Disk.view c.args.disk.now in
    λ file slot is t classes lines journal read F.
    let left = g.met.D.Disk.content_left c.args.disk.now old.moment t (omega arith) in
    c.close_next.ensures.bad file slot (search rules) t c.requires.first
    (λ member is_member. F.facts.pages.header member (old.content (ruj_file member) 0) is_member (pends old left (ruj_file member) 0))

pub returns-in_err-next-clause-stands : goal.returns-in_err-next-clause-stands
returns-in_err-next-clause-stands g c = let v = g.D.Disk.view in let old = v c.args.disk.now in let new = v c.close_next.new.disk in
    λ t classes lines journal read F.
    let left = g.met.D.Disk.content_left c.args.disk.now old.moment t (omega arith) in
    let now = found classes lines journal read.root F.going in
    leaves_kept classes lines journal read.root F.going old new
    (written_stands old new (ruj_file c.close_next.ensures.writes.0) 0 now c.close_next.ensures.writes.1 t F.facts
    (c.close_next.ensures.keeps t now F.facts F.done.none (some_number classes lines journal read old new F.going F.facts left)))

pub returns-then-next-gt16-clause-stands : goal.returns-then-next-gt16-clause-stands
returns-then-next-gt16-clause-stands g c = let v = g.D.Disk.view in let old = v c.args.disk.now in let new = v c.close_next.new.disk in
    λ t classes lines journal read F.
    let left = g.met.D.Disk.content_left c.args.disk.now old.moment t (omega arith) in
    let now = found classes lines journal read.root F.going in
    leaves_kept classes lines journal read.root F.going old new
    (written_stands old new (ruj_file c.close_next.ensures.writes.0) 0 now c.close_next.ensures.writes.1 t F.facts
    (c.close_next.ensures.keeps t now F.facts F.done.none (some_number classes lines journal read old new F.going F.facts left)))

pub returns-clause-stands : goal.returns-clause-stands
returns-clause-stands g c = let v = g.D.Disk.view in let old = v c.args.disk.now in let new = v c.close_next.new.disk in
    λ t classes lines journal read F.
    let left = g.met.D.Disk.content_left c.args.disk.now old.moment t (omega arith) in
    let now = found classes lines journal read.root F.going in
    leaves_kept classes lines journal read.root F.going old new
    (written_stands old new (ruj_file c.close_next.ensures.writes.0) 0 now c.close_next.ensures.writes.1 t F.facts
    (c.close_next.ensures.keeps t now F.facts F.done.none (some_number classes lines journal read old new F.going F.facts left)))

pub returns-then-next-gt16-clause-goes_on : goal.returns-then-next-gt16-clause-goes_on
returns-then-next-gt16-clause-goes_on g c = let v = g.D.Disk.view in let old = v c.args.disk.now in let new = v c.close_next.new.disk in
    λ t classes lines journal read F.
    let left = g.met.D.Disk.content_left c.args.disk.now old.moment t (omega arith) in
    let now = found classes lines journal read.root F.going in
    let past : 16 < c.in_ok-next.next = search rules in
    all_closed classes lines journal read old new c.args.member c.in_ok-next.next F
    (c.close_next.ensures.keeps t now F.facts F.done.none (some_number classes lines journal read old new F.going F.facts left))
    past c.in_ok-next.ensures.last (c.in_ok-next.ensures.closed t F.done.closed)

pub returns-clause-goes_on : goal.returns-clause-goes_on
returns-clause-goes_on g c = let v = g.D.Disk.view in let old = v c.args.disk.now in let new = v c.close_next.new.disk in
    λ t classes lines journal read F.
    let left = g.met.D.Disk.content_left c.args.disk.now old.moment t (omega arith) in
    let now = found classes lines journal read.root F.going in
    closed_on classes lines journal read old new c.args.member c.in_ok-next.next F
    (c.close_next.ensures.keeps t now F.facts F.done.none (some_number classes lines journal read old new F.going F.facts left))
    (c.in_ok-next.ensures.closed t F.done.closed)

pub returns-clause-stage : goal.returns-clause-stage
returns-clause-stage g c =
    let last = c.requires.last in let first = c.requires.first in
    let further : c.args.member < c.in_ok-next.next = c.in_ok-next.ensures.further (omega (arith, last)) in
    let within : c.in_ok-next.next ≤ 16 = search rules in
    record { first = omega (arith, first, further); last = within }

pub returns-then-next-gt16-clause-nearer : goal.returns-then-next-gt16-clause-nearer
returns-then-next-gt16-clause-nearer g c = λ counts. let last = c.requires.last in omega (arith, last)

pub returns-clause-nearer : goal.returns-clause-nearer
returns-clause-nearer g c = λ counts.
    let last = c.requires.last in
    let further : c.args.member < c.in_ok-next.next = c.in_ok-next.ensures.further (omega (arith, last)) in
    let within : c.in_ok-next.next ≤ 16 = search rules in
    omega (arith, further, within)

pub returns-in_err-next-clause-told : goal.returns-in_err-next-clause-told
returns-in_err-next-clause-told g c = c.close_next.ensures.writes.1.told

pub returns-in_err-next-clause-no_fewer : goal.returns-in_err-next-clause-no_fewer
returns-in_err-next-clause-no_fewer g c = c.close_next.ensures.writes.1.no_fewer

pub returns-then-next-gt16-clause-told : goal.returns-then-next-gt16-clause-told
returns-then-next-gt16-clause-told g c = c.close_next.ensures.writes.1.told

pub returns-then-next-gt16-clause-no_fewer : goal.returns-then-next-gt16-clause-no_fewer
returns-then-next-gt16-clause-no_fewer g c = c.close_next.ensures.writes.1.no_fewer

pub returns-clause-told : goal.returns-clause-told
returns-clause-told g c = c.close_next.ensures.writes.1.told

pub returns-clause-no_fewer : goal.returns-clause-no_fewer
returns-clause-no_fewer g c = c.close_next.ensures.writes.1.no_fewer

pub returns-in_err-next-clause-classes : goal.returns-in_err-next-clause-classes
returns-in_err-next-clause-classes g c = let v = g.D.Disk.view in let old = v c.args.disk.now in let new = v c.close_next.new.disk in
    λ t by_area lie. classes_beside old new c.close_next.ensures.writes.0 c.close_next.ensures.writes.1 t by_area lie

pub returns-in_err-next-clause-untouched : goal.returns-in_err-next-clause-untouched
returns-in_err-next-clause-untouched g c = let v = g.D.Disk.view in let old = v c.args.disk.now in let new = v c.close_next.new.disk in
    λ t. untouched_beside old new c.close_next.ensures.writes.0 c.close_next.ensures.writes.1 t

pub returns-then-next-gt16-clause-classes : goal.returns-then-next-gt16-clause-classes
returns-then-next-gt16-clause-classes g c = let v = g.D.Disk.view in let old = v c.args.disk.now in let new = v c.close_next.new.disk in
    λ t by_area lie. classes_beside old new c.close_next.ensures.writes.0 c.close_next.ensures.writes.1 t by_area lie

pub returns-then-next-gt16-clause-untouched : goal.returns-then-next-gt16-clause-untouched
returns-then-next-gt16-clause-untouched g c = let v = g.D.Disk.view in let old = v c.args.disk.now in let new = v c.close_next.new.disk in
    λ t. untouched_beside old new c.close_next.ensures.writes.0 c.close_next.ensures.writes.1 t

pub returns-clause-classes : goal.returns-clause-classes
returns-clause-classes g c = let v = g.D.Disk.view in let old = v c.args.disk.now in let new = v c.close_next.new.disk in
    λ t by_area lie. classes_beside old new c.close_next.ensures.writes.0 c.close_next.ensures.writes.1 t by_area lie

pub returns-clause-untouched : goal.returns-clause-untouched
returns-clause-untouched g c = let v = g.D.Disk.view in let old = v c.args.disk.now in let new = v c.close_next.new.disk in
    λ t. untouched_beside old new c.close_next.ensures.writes.0 c.close_next.ensures.writes.1 t

pub returns-in_err-next-clause-others : goal.returns-in_err-next-clause-others
returns-in_err-next-clause-others g c = let v = g.D.Disk.view in let writes = c.close_next.ensures.writes in
    header_apart (v c.args.disk.now) (v c.close_next.new.disk) writes.0 0 writes.1

pub returns-then-next-gt16-clause-others : goal.returns-then-next-gt16-clause-others
returns-then-next-gt16-clause-others g c = let v = g.D.Disk.view in let writes = c.close_next.ensures.writes in
    header_apart (v c.args.disk.now) (v c.close_next.new.disk) writes.0 0 writes.1

pub returns-clause-others : goal.returns-clause-others
returns-clause-others g c = let v = g.D.Disk.view in let writes = c.close_next.ensures.writes in
    header_apart (v c.args.disk.now) (v c.close_next.new.disk) writes.0 0 writes.1
