use Rattle.std.proofs.Common.{◌≡◌, [], sym, ap, subst, ◌∙◌}
use Rattle.line_store.specs.Seats.{reading}
use Rattle.line_store.specs.Sights.{BeginsReading}
use Rattle.line_versions.specs.Versions.{Start}
use Rattle.disk_store.specs.declared.member.Member.{Member}
use Rattle.disk_store.specs.declared.member.MemberStage.TheVariants as stage
use Rattle.disk_store.specs.Memory.{StoreMemory, with_member}
use Rattle.disk_store.specs.Readers.{keeping, numbers_going}
use Rattle.disk_store.specs.Seats.{stand_of}
use Rattle.disk_store.specs.Shown.{DoesOn}
use Rattle.disk_store.proofs.Begun.{does-begin-reading}
use Rattle.disk_store.proofs.Taking.{stays}
use Rattle.disk_store.proofs.starts.begin_reading.Goals as goal

pub returns-in_default-clause-err : goal.returns-in_default-clause-err
returns-in_default-clause-err g c = stays (g.D.Disk.view c.args._disk.now) c.args.held.now c.args.s.number

pub returns-clause-ok : goal.returns-clause-ok
returns-clause-ok g c =
    let v = g.D.Disk.view c.args._disk.now in
    let s = c.args.s.number in
    let held = c.args.held.now in
    let comes = c.keep_start.ensures in
    let m : Member = comes.0 in
    let next = ap (λ (x : StoreMemory). x.numbers.next) c.held.view_is in
    let active = c.in-Ok.ensures ∙ ap numbers_going (c.deref.ensures.value ∙ ap (λ (x : StoreMemory). x.members) c.held.view_is) in
    let kept : c.new.result ≡ record { next = held.numbers.next; active = numbers_going held.members } = c.new.ensures ∙ (λ i. record { next = next i; active = active i }) in
    subst (λ new. DoesOn s (reading []) (BeginsReading s) v held v new)
    (sym (comes.2 ∙ ap (λ (start : Start). with_member s (keeping stage.Reading start m) held) kept))
    (does-begin-reading v held s m comes.1 (sym (ap stand_of comes.1) ∙ c.requires.outside))
