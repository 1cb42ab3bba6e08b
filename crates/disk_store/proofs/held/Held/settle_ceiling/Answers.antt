use Rattle.disk_store.specs.Memory.{StoreMemory}
use Rattle.disk_store.specs.Numbers.{settled}
use Rattle.disk_store.proofs.Sound.{sound-settled}
use Rattle.disk_store.proofs.CommitsKept.{numbers-kept}
use Rattle.disk_store.proofs.held.Held.settle_ceiling.Goals as goal

pub invariant_of-self : goal.invariant_of-self
invariant_of-self c =
    let i = c.self.inside in
    let h : StoreMemory = record { limits = i.limits; numbers = i.numbers; next = i.next; tables = i.tables; slots = i.slots; members = i.members.items } in
    (c.self.invariant.0, sound-settled h c.self.invariant.1, numbers-kept h (settled i.numbers) c.self.invariant.2)
