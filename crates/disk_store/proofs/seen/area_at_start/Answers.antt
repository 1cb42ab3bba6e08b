use Rattle.std.proofs.Common.{◌∙◌, sym, ap, subst, arith}
use Rattle.member_rooms.specs.committed_tables.Tables.{WereUsed}
use Rattle.member_rooms.specs.page_table.Pages.{Pages}
use Rattle.reader_lines.specs.Readers.{IsReader}
use Rattle.disk_store.specs.Memory.{StoreMemory}
use Rattle.disk_store.proofs.Tabled.{file-of}
use Rattle.disk_store.proofs.Seeing.{ok-as, none-at-start}
use Rattle.disk_store.proofs.seen.area_at_start.Goals as goal

pub returns-in-Some-clause-seen : goal.returns-in-Some-clause-seen
returns-in-Some-clause-seen g c =
    let v = g.D.Disk.view c.args.disk.now in
    let file = c.in-Some.file in
    let owner = c.in-Some.ensures.found in
    let limit = sym (ap (λ (x : StoreMemory). x.limits.snaps) c.held.view_is) in
    ok-as c.reader_area.result c.reader_area.ensures.seen (λ found seen t ledger lines is ordered used.
    seen t ledger lines file (subst (λ n. IsReader v ledger n c.args.reader.now lines) limit is) ordered owner
    (subst (λ (p : Pages). WereUsed p file lines) (sym c.table.ensures) (used file (file-of file c.args.area owner))))

pub returns-clause-seen : goal.returns-clause-seen
returns-clause-seen g c = let v = g.D.Disk.view c.args.disk.now in λ t ledger lines is ordered used.
    c.new.ensures ∙ sym (none-at-start v (g.met.D.Disk.content_left c.args.disk.now v.moment t (omega arith)) c.args.area c.in_default.ensures.none ledger c.args.held.now.limits.snaps c.args.reader.now lines is ordered)

pub returns-in-Some-clause-bad : goal.returns-in-Some-clause-bad
returns-in-Some-clause-bad g c = λ file slot is t ledger facts. c.reader_area.ensures.bad file slot is t ledger facts
