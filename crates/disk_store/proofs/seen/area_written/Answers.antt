use Rattle.std.proofs.Common.{◌∙◌, List, sym, ap, subst, arith}
use Rattle.reader_lines.specs.committed_lines.Seen.{AreSeen}
use Rattle.member_rooms.specs.committed_tables.Tables.{WereUsed}
use Rattle.member_rooms.specs.page_table.Pages.{Pages}
use Rattle.disk_store.specs.declared.member.Member.{Member}
use Rattle.disk_store.specs.BeforeImages.{seen_of}
use Rattle.disk_store.specs.Memory.{StoreMemory}
use Rattle.disk_store.proofs.Tabled.{file-of}
use Rattle.disk_store.proofs.Seeing.{ok-as, committed-order, none-committed}
use Rattle.disk_store.proofs.seen.area_written.Goals as goal

pub returns-in-Some-clause-seen : goal.returns-in-Some-clause-seen
returns-in-Some-clause-seen g c =
    let file = c.in-Some.file in
    let owner = c.in-Some.ensures.found in
    let members = sym (c.as_slice-members.ensures.value ∙ ap (λ (x : StoreMemory). x.members) c.held.view_is) in
    ok-as c.seen_area.result c.seen_area.ensures.seen (λ found seen t ledger facts are used.
    seen t ledger file facts (subst (λ (l : List Member). AreSeen seen_of ledger l) members are) owner
    (subst (λ (p : Pages). WereUsed p file ledger.base.lines) (sym c.table.ensures) (used file (file-of file c.args.area owner))))

pub returns-in-Ok-clause-seen : goal.returns-in-Ok-clause-seen
returns-in-Ok-clause-seen g c = let v = g.D.Disk.view c.args.disk.now in λ t ledger facts are used.
    c.in-Ok.ensures.seen ledger.base.lines (committed-order v ledger facts)
    (none-committed v (g.met.D.Disk.content_left c.args.disk.now v.moment t (omega arith)) c.args.area c.in_default.ensures.none ledger facts)

pub returns-in-Some-clause-bad : goal.returns-in-Some-clause-bad
returns-in-Some-clause-bad g c = λ file slot is t ledger facts are.
    let members = sym (c.as_slice-members.ensures.value ∙ ap (λ (x : StoreMemory). x.members) c.held.view_is) in
    c.seen_area.ensures.bad file slot is t ledger facts (subst (λ (l : List Member). AreSeen seen_of ledger l) members are)
