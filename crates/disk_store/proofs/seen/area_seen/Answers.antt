use Rattle.std.proofs.Common.{◌∙◌, ap, subst}
use Rattle.line_view.specs.Knowledge.{Lines, lines_in}
use Rattle.line_store.specs.Seats.{IsAtRest}
use Rattle.disk_store.specs.declared.member.Member.{Member}
use Rattle.disk_store.specs.Seats.{stand_of}
use Rattle.disk_store.proofs.Seeing.{ok-as, at-rest, sees-written, committed-used, began}
use Rattle.disk_store.proofs.Journalled.{are_seen}
use Rattle.disk_store.proofs.seen.area_seen.Goals as goal

pub returns-then-is_reading-clause-seen : goal.returns-then-is_reading-clause-seen
returns-then-is_reading-clause-seen g c =
    let v = g.D.Disk.view c.args.disk.now in
    let held = c.args.held.now in
    let m : Member = c.member-member.result.now in
    let at = c.is_reading.ensures.yes c.if-is_reading.true in
    ok-as c.area_at_start.result c.area_at_start.ensures.seen (λ found seen h shown.
    let b = began v held c.args.s.number m c.member-member.ensures h shown at in
    seen shown.tells shown.ledger b.start b.reader b.ordered b.used ∙ ap (λ (l : Lines). lines_in c.args.area l) b.sees)

pub returns-clause-seen : goal.returns-clause-seen
returns-clause-seen g c =
    let v = g.D.Disk.view c.args.disk.now in
    let held = c.args.held.now in
    let s = c.args.s.number in
    let m : Member = c.member-member.result.now in
    let was = c.member-member.ensures in
    let writes = at-rest m.stage (subst (λ x. IsAtRest (stand_of x)) was c.requires.seat) (c.is_reading.ensures.no c.if-is_reading.false) in
    ok-as c.area_written.result c.area_written.ensures.seen (λ found seen h shown.
    seen shown.tells shown.ledger shown.facts (are_seen v held h shown) (λ file is. committed-used v held s m was h shown file is)
    ∙ ap (λ (l : Lines). lines_in c.args.area l) (sees-written v held s m was h shown writes))

pub returns-then-is_reading-clause-bad : goal.returns-then-is_reading-clause-bad
returns-then-is_reading-clause-bad g c = λ file slot is h shown. c.area_at_start.ensures.bad file slot is shown.tells shown.ledger shown.facts

pub returns-clause-bad : goal.returns-clause-bad
returns-clause-bad g c = λ file slot is h shown.
    c.area_written.ensures.bad file slot is shown.tells shown.ledger shown.facts (are_seen (g.D.Disk.view c.args.disk.now) c.args.held.now h shown)
