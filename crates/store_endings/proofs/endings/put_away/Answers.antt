use Rattle.std.proofs.Common.{◌≡◌, refl, sym, subst, ap, ◌∙◌}
use Rattle.line_store.specs.Calls.{IsDone}
use Rattle.line_store.specs.Seats.{done_at}
use Rattle.line_store.specs.Sights.{seat_or}
use Rattle.disk_store.specs.declared.member.Member.{Member}
use Rattle.disk_store.specs.declared.member.MemberStage.TheVariants as stage
use Rattle.disk_store.specs.Dying.{forgotten}
use Rattle.disk_store.specs.Memory.{StoreMemory, with_member}
use Rattle.disk_store.specs.Seats.{stand_at}
use Rattle.disk_store.specs.Shown.{DoesOn}
use Rattle.disk_store.proofs.Failing.{does-fail}
use Rattle.disk_store.proofs.Closing.{ended-at, ended-plain, ended-unchanging, ended-rests, keeps-it, does-close, one-member}
use Rattle.store_endings.proofs.SlotsGiven.{does-give, forgotten-outside, no-slots, stands-outside}
use Rattle.store_endings.proofs.Tidied.{done-still}
use Rattle.disk_store.proofs.OwnFiles.{own-journal}
use Rattle.store_endings.proofs.endings.put_away.Goals as goal

pub returns-in_default-clause-comes : goal.returns-in_default-clause-comes
returns-in_default-clause-comes g c =
    let v = g.D.Disk.view c.args.disk.now in
    let w = g.D.Disk.view c.close.new.disk in
    let at = ended-at c.args.held.now.members c.args.s.number c.requires.ended in
    does-fail v w c.args.held.now c.args.s.number at.member at.is (ended-plain at.member.stage at.ended)
    (keeps-it v w c.args.held.now c.args.s.number at.member at.is (λ ledger stands. ended-rests at.member.stage at.ended v ledger c.args.s.number at.member stands) c.close.ensures.writes c.close.ensures.keeps) (ended-unchanging at.member.stage at.ended) (c.in_default.ensures.counts.cause refl)

pub give_slots-requires-clause-outside : goal.give_slots-requires-clause-outside
give_slots-requires-clause-outside g c = let comes = c.forget.ensures in forgotten-outside c.args.held.now c.forget.new.self c.args.s.number comes.0 comes.1 comes.2

pub returns-clause-comes : goal.returns-clause-comes
returns-clause-comes g c =
    let v = g.D.Disk.view c.args.disk.now in
    let w = g.D.Disk.view c.close.new.disk in
    let s = c.args.s.number in
    let held : StoreMemory = c.args.held.now in
    let mid : StoreMemory = c.forget.new.self in
    let behind : StoreMemory = c.give_slots.new.self in
    let there = seat_or (stand_at held.members s) (done_at (stand_at held.members s)) in
    let at = ended-at held.members s c.requires.ended in
    let comes = c.forget.ensures in
    let same : comes.0 ≡ at.member = one-member held.members s comes.0 at.member comes.1 at.is in
    let out = forgotten-outside held mid s comes.0 comes.1 comes.2 in
    let closed : DoesOn s there (λ h g. IsDone s h g) v held w mid =
    subst (λ (x : StoreMemory). DoesOn s there (λ h g. IsDone s h g) v held w x)
    (sym (comes.2 ∙ ap (λ (x : Member). with_member s (forgotten stage.Outside x) held) same))
    (does-close v w held s at.member at.is at.ended c.close.ensures.writes c.close.ensures.keeps) in
    done-still s there v w w held mid behind (stands-outside mid.members s out) (does-give w mid behind s out c.give_slots.ensures) closed

pub returns-clause-slots : goal.returns-clause-slots
returns-clause-slots g c = no-slots c.forget.new.self c.give_slots.new.self c.args.s.number c.give_slots.ensures

pub returns-in_default-clause-writes : goal.returns-in_default-clause-writes
returns-in_default-clause-writes g c = own-journal c.args.s.number 0 (g.D.Disk.view c.args.disk.now) (g.D.Disk.view c.close.new.disk) c.close.ensures.writes

pub returns-clause-writes : goal.returns-clause-writes
returns-clause-writes g c = own-journal c.args.s.number 0 (g.D.Disk.view c.args.disk.now) (g.D.Disk.view c.close.new.disk) c.close.ensures.writes
