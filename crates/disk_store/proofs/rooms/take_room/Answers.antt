use Rattle.std.proofs.Common.{⊎_elim, refl, sym, ap, subst, ◌∙◌}
use Rattle.rdb_types.specs.declared.keys.Limits.{Limits}
use Rattle.line_store.specs.Shelves.{Shelf}
use Rattle.line_store.specs.Rooms.{Takes}
use Rattle.member_rooms.specs.page_table.Pages.{Pages}
use Rattle.member_rooms.specs.page_table.Scans.{IsNew}
use Rattle.member_rooms.specs.Classes.{IsClassOf, HasNoOwned}
use Rattle.disk_store.specs.declared.held.Tables.{Tables}
use Rattle.disk_store.specs.Grown.{Grow}
use Rattle.disk_store.specs.Memory.{StoreMemory}
use Rattle.disk_store.specs.Seats.{stand_at}
use Rattle.disk_store.specs.Shown.{DoesOn, pages_of, TablesStand, Shown}
use Rattle.disk_store.proofs.Growing.{grow-same, grow-taken}
use Rattle.disk_store.proofs.Tabled.{stand-as, stand-anew}
use Rattle.disk_store.proofs.Taking.{stays, takes-again, takes-page}
use Rattle.disk_store.proofs.rooms.take_room.Goals as goal

pub unreachable-requires : goal.unreachable-requires
unreachable-requires g c = c.in_default.ensures.none c.requires.area.0 c.requires.area.1

pub returns-then-not-is_new-clause-taken : goal.returns-then-not-is_new-clause-taken
returns-then-not-is_new-clause-taken g c is =
    takes-again (g.D.Disk.view c.args._disk.now) c.args.held.now c.args._s.number c.in-Some.file c.args.class c.args.key c.in-Some.ensures.found
    (λ new. c.is_new.ensures.no c.if-not-is_new.true (subst (λ (ps : Pages). IsNew ps c.args.key.page) (sym c.table.ensures) new))

pub returns-then-not-is_new-clause-refused : goal.returns-then-not-is_new-clause-refused
returns-then-not-is_new-clause-refused g c not = stays (g.D.Disk.view c.args._disk.now) c.args.held.now c.args._s.number

pub returns-clause-taken : goal.returns-clause-taken
returns-clause-taken g c is =
    let v = g.D.Disk.view c.args._disk.now in
    let held : StoreMemory = c.args.held.now in
    let s = c.args._s.number in
    let file = c.in-Some.file in
    let owner = c.in-Some.ensures.found in
    let kept = c.take_page.ensures.0 in
    let new : IsNew (pages_of held.tables file) c.args.key.page = subst (λ (ps : Pages). IsNew ps c.args.key.page) c.table.ensures (c.is_new.ensures.yes c.if-not-is_new.false) in
    let takes = c.take_page.ensures.2 in
    let stand : (h : Shelf) (shown : Shown v held h) → TablesStand v shown.ledger kept = λ h shown.
    ⊎_elim
    (λ (has : IsClassOf c.table-2.result.now c.args.key.area c.class_for-its.result). stand-as v shown.ledger held.tables shown.facts shown.tables file c.args.key.area owner kept c.args.key.page c.class_for-its.result new takes
    (subst (λ (ps : Pages). IsClassOf ps c.args.key.area c.class_for-its.result) c.table-2.ensures has))
    (λ (none : HasNoOwned c.table-2.result.now c.args.key.area). stand-anew v shown.ledger held.tables shown.facts shown.tables file c.args.key.area owner kept c.args.key.page c.class_for-its.result new takes
    (λ f. shown.space.pages.limit f ∙ ap (λ (l : Limits). l.pages) (shown.space.limits ∙ sym shown.limits))
    (subst (λ (ps : Pages). HasNoOwned ps c.args.key.area) c.table-2.ensures none))
    c.class_for-its.ensures in
    subst (λ (x : StoreMemory). DoesOn s (stand_at held.members s) (Takes c.args.key) v held v x) (sym c.take_page.ensures.1)
    (takes-page v held s file c.class_for-its.result c.args.key owner kept new takes stand)

pub returns-clause-members : goal.returns-clause-members
returns-clause-members g c = ap (λ (k : StoreMemory). k.members) c.take_page.ensures.1

pub returns-then-not-is_new-clause-grows : goal.returns-then-not-is_new-clause-grows
returns-then-not-is_new-clause-grows g c = grow-same c.args.held.now.tables c.args.held.now.tables refl

pub returns-clause-grows : goal.returns-clause-grows
returns-clause-grows g c =
    let held : StoreMemory = c.args.held.now in
    let file = c.in-Some.file in
    let kept = c.take_page.ensures.0 in
    let new : IsNew (pages_of held.tables file) c.args.key.page = subst (λ (ps : Pages). IsNew ps c.args.key.page) c.table.ensures (c.is_new.ensures.yes c.if-not-is_new.false) in
    subst (λ (t : Tables). Grow held.tables t) (sym (ap (λ (k : StoreMemory). k.tables) c.take_page.ensures.1))
    (grow-taken held.tables kept file c.args.key.page c.args.key.area c.class_for-its.result new c.take_page.ensures.2)
