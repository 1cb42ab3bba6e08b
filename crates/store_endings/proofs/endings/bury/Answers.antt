use Rattle.std.proofs.Common.{◌≡◌, [], refl, sym, subst, ap, ◌∙◌}
use Rattle.line_store.specs.Seats.{outside, IsAlive}
use Rattle.line_store.specs.Calls.{IsUndone}
use Rattle.disk_store.specs.declared.member.Member.{Member}
use Rattle.disk_store.specs.declared.member.MemberStage.TheVariants as stage
use Rattle.disk_store.specs.declared.member.Recovery.TheVariants as recovery
use Rattle.disk_store.specs.Dying.{forgotten}
use Rattle.disk_store.specs.Memory.{StoreMemory, with_member}
use Rattle.disk_store.specs.Seats.{stand_of, seat_with}
use Rattle.disk_store.specs.Shown.{DoesOn}
use Rattle.disk_store.proofs.Failing.{does-fail}
use Rattle.disk_store.proofs.Closing.{keeps-it, does-bury, dead-rests, one-member}
use Rattle.store_endings.proofs.SlotsGiven.{does-give, forgotten-outside, no-slots, stands-outside}
use Rattle.store_endings.proofs.Tidied.{undone-still}
use Rattle.disk_store.proofs.OwnFiles.{own-journal}
use Rattle.store_endings.proofs.endings.bury.Goals as goal

pub returns-in_default-clause-comes : goal.returns-in_default-clause-comes
returns-in_default-clause-comes g c =
    let v = g.D.Disk.view c.args.disk.now in
    let w = g.D.Disk.view c.close.new.disk in
    let s = c.args.s.number in
    let at = c.requires.died.1 in
    let st : at.member.stage ≡ stage.Dead c.requires.died.0 recovery.Ending = at.at in
    does-fail v w c.args.held.now s at.member at.is (λ reads. cc)
    (keeps-it v w c.args.held.now s at.member at.is (λ ledger stands. dead-rests v ledger s at.member c.requires.died.0 at.at stands) c.close.ensures.writes c.close.ensures.keeps) (λ changes. cc) (c.in_default.ensures.counts.cause refl)

pub returns-clause-answers : goal.returns-clause-answers
returns-clause-answers g c alive =
    let at = c.requires.died.1 in
    subst IsAlive (ap stand_of at.is ∙ ap (λ st. seat_with st [] []) at.at) alive

pub give_slots-requires-clause-outside : goal.give_slots-requires-clause-outside
give_slots-requires-clause-outside g c = let comes = c.forget.ensures in forgotten-outside c.args.held.now c.forget.new.self c.args.s.number comes.0 comes.1 comes.2

pub returns-clause-comes : goal.returns-clause-comes
returns-clause-comes g c =
    let v = g.D.Disk.view c.args.disk.now in
    let w = g.D.Disk.view c.close.new.disk in
    let s = c.args.s.number in
    let moment = c.moment.result.number in
    let held : StoreMemory = c.args.held.now in
    let mid : StoreMemory = c.forget.new.self in
    let behind : StoreMemory = c.give_slots.new.self in
    let at = c.requires.died.1 in
    let comes = c.forget.ensures in
    let same : comes.0 ≡ at.member = one-member held.members s comes.0 at.member comes.1 at.is in
    let out = forgotten-outside held mid s comes.0 comes.1 comes.2 in
    let closed : DoesOn s outside (λ h k. IsUndone s moment h k) v held w mid =
    subst (λ (x : StoreMemory). DoesOn s outside (λ h k. IsUndone s moment h k) v held w x)
    (sym (comes.2 ∙ ap (λ (x : Member). with_member s (forgotten stage.Outside x) held) same))
    (does-bury v w held s moment at.member c.requires.died.0 at.is at.at c.close.ensures.writes c.close.ensures.keeps c.moment.ensures) in
    undone-still s outside v w w held mid behind (stands-outside mid.members s out) (does-give w mid behind s out c.give_slots.ensures) moment closed

pub returns-clause-slots : goal.returns-clause-slots
returns-clause-slots g c = no-slots c.forget.new.self c.give_slots.new.self c.args.s.number c.give_slots.ensures

pub returns-in_default-clause-writes : goal.returns-in_default-clause-writes
returns-in_default-clause-writes g c = own-journal c.args.s.number 0 (g.D.Disk.view c.args.disk.now) (g.D.Disk.view c.close.new.disk) c.close.ensures.writes

pub returns-clause-writes : goal.returns-clause-writes
returns-clause-writes g c = own-journal c.args.s.number 0 (g.D.Disk.view c.args.disk.now) (g.D.Disk.view c.close.new.disk) c.close.ensures.writes
