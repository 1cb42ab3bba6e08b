use Rattle.disk_store.specs.Memory.{StoreMemory}
use Rattle.disk_store.proofs.FirstSound.{first-sound, first-commits}
use Rattle.disk_store.proofs.held.Held.new.Goals as goal

pub invariant_of-result : goal.invariant_of-result
invariant_of-result c =
    let r = c.requires in
    let a = c.args in
    let h : StoreMemory = record { limits = a.limits; numbers = a.numbers; next = a.next; tables = a.tables; slots = c.in_ok-slots.slots; members = c.in_ok-members.members.items } in
    (c.in_ok-members.ensures.long, first-sound h r.first r.last r.allowed c.in_ok-members.ensures.fresh, first-commits h r.allowed r.groups c.in_ok-members.ensures.fresh)
