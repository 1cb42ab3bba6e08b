use Rattle.std.proofs.Common.{◌≡◌, Some, refl, sym, ap, ◌∙◌, arith}
use Rattle.std.specs.Prelude.{slice_get}
use Rattle.member_memory.specs.Memory.{Memory}
use Rattle.disk_store.specs.declared.member.Member.{Member}
use Rattle.disk_store.specs.Memory.{StoreMemory, begun_with, drawn, with_member, with_number}
use Rattle.disk_store.specs.Sound.{IsSound}
use Rattle.disk_store.proofs.Members.{lent-there, set-long}
use Rattle.disk_store.proofs.Sound.{sound-with, sound-empty, loses-lines}
use Rattle.disk_store.proofs.CommitsKept.{free-kept, numbers-kept}
use Rattle.disk_store.proofs.held.Held.draw_number.Goals as goal

pub invariant_of-self : goal.invariant_of-self
invariant_of-self c =
    let i = c.self.inside in
    let s = c.args.s.number in
    let m : Member = c.index_mut-member.result.now in
    let is : slice_get i.members.items s ≡ Some m = lent-there i.members.items s m (omega (arith, c.self.invariant.0, c.requires.member.last)) c.index_mut-member.ensures.value in
    let h : StoreMemory = record { limits = i.limits; numbers = i.numbers; next = i.next; tables = i.tables; slots = i.slots; members = i.members.items } in
    let sound : IsSound h = c.self.invariant.1 in
    let n : Member = record (begun_with i.numbers.next m) { written = c.new.result } in
    let next = ap (λ (k : StoreMemory). k.numbers.next) c.self.view_is in
    let ceiling = ap (λ (k : StoreMemory). k.numbers.ceiling) c.self.view_is in
    let below = c.requires.below in
    let first = sound.first in
    let last = sound.last in
    (set-long i.members.items s n ∙ c.self.invariant.0, sound-with h s m n is sound (sound-empty h.tables n first (omega (arith, next, ceiling, below, last)) c.new.ensures) (loses-lines m n (ap (λ (w : Memory). w.lines) c.new.ensures) refl) (drawn i.numbers) (omega (arith, first)) last (record { limited = sound.allowed.limited; applied = sound.allowed.applied; written = sound.allowed.written }), numbers-kept (with_member s n h) (drawn i.numbers) (free-kept h s m n c.requires.member is refl c.self.invariant.2))

pub returns : goal.returns
returns c =
    let i = c.self.inside in
    let s = c.args.s.number in
    let m : Member = c.index_mut-member.result.now in
    let is : slice_get i.members.items s ≡ Some m = lent-there i.members.items s m (omega (arith, c.self.invariant.0, c.requires.member.last)) c.index_mut-member.ensures.value in
    let h : StoreMemory = record { limits = i.limits; numbers = i.numbers; next = i.next; tables = i.tables; slots = i.slots; members = i.members.items } in
    let sound : IsSound h = c.self.invariant.1 in (
      m,
      ap (λ (k : StoreMemory). slice_get k.members s) (sym c.self.view_is) ∙ is,
      ap (λ (w : Memory). record (with_member s (record (begun_with i.numbers.next m) { written = w }) h) { numbers = drawn i.numbers }) c.new.ensures ∙ ap (λ (k : StoreMemory). with_number s m k) c.self.view_is,
    )
