use Rattle.std.proofs.Common.{◌∙◌, List, sym, ap, subst}
use Rattle.line_view.specs.Knowledge.{Lines, line_in}
use Rattle.line_store.specs.Seats.{IsAtRest}
use Rattle.reader_lines.specs.committed_lines.Seen.{AreSeen}
use Rattle.reader_lines.specs.Readers.{IsReader}
use Rattle.disk_store.specs.declared.member.Member.{Member}
use Rattle.disk_store.specs.BeforeImages.{seen_of}
use Rattle.disk_store.specs.Memory.{StoreMemory}
use Rattle.disk_store.specs.Seats.{stand_of}
use Rattle.disk_store.proofs.Seeing.{ok-as, at-rest, sees-written, began}
use Rattle.disk_store.proofs.Journalled.{are_seen}
use Rattle.disk_store.proofs.seen.line_seen.Goals as goal

pub returns-then-is_reading-clause-seen : goal.returns-then-is_reading-clause-seen
returns-then-is_reading-clause-seen g c =
    let v = g.D.Disk.view c.args.disk.now in
    let held = c.args.held.now in
    let m : Member = c.member-member.result.now in
    let at = c.is_reading.ensures.yes c.if-is_reading.true in
    let limit = sym (ap (λ (x : StoreMemory). x.limits.snaps) c.held.view_is) in
    ok-as c.reader_line.result c.reader_line.ensures.seen (λ image seen h shown.
    let b = began v held c.args.s.number m c.member-member.ensures h shown at in
    seen shown.tells shown.ledger b.start (subst (λ n. IsReader v shown.ledger n m.reader b.start) limit b.reader) ∙ ap (λ (l : Lines). line_in c.args.key l) b.sees)

pub returns-clause-seen : goal.returns-clause-seen
returns-clause-seen g c =
    let v = g.D.Disk.view c.args.disk.now in
    let held = c.args.held.now in
    let s = c.args.s.number in
    let m : Member = c.member-member.result.now in
    let was = c.member-member.ensures in
    let writes = at-rest m.stage (subst (λ x. IsAtRest (stand_of x)) was c.requires.seat) (c.is_reading.ensures.no c.if-is_reading.false) in
    let members = sym (c.as_slice.ensures.value ∙ ap (λ (x : StoreMemory). x.members) c.held.view_is) in
    ok-as c.seen_line.result c.seen_line.ensures.seen (λ image seen h shown.
    seen shown.tells shown.ledger shown.facts (subst (λ (l : List Member). AreSeen seen_of shown.ledger l) members (are_seen v held h shown))
    ∙ ap (λ (l : Lines). line_in c.args.key l) (sees-written v held s m was h shown writes))

pub returns-then-is_reading-clause-bad : goal.returns-then-is_reading-clause-bad
returns-then-is_reading-clause-bad g c = λ file slot is h shown. c.reader_line.ensures.bad file slot is shown.tells shown.ledger shown.facts

pub returns-clause-bad : goal.returns-clause-bad
returns-clause-bad g c = λ file slot is h shown.
    let v = g.D.Disk.view c.args.disk.now in
    let members = sym (c.as_slice.ensures.value ∙ ap (λ (x : StoreMemory). x.members) c.held.view_is) in
    c.seen_line.ensures.bad file slot is shown.tells shown.ledger shown.facts (subst (λ (l : List Member). AreSeen seen_of shown.ledger l) members (are_seen v c.args.held.now h shown))
