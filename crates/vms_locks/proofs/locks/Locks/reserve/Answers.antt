use Rattle.vms_locks.specs.Table.{table_of}
use Rattle.vms_locks.specs.Places.{place_of}
use Rattle.vms_locks.proofs.Known.{unchanged}
use Rattle.vms_locks.proofs.locks.Locks.reserve.Goals as goal

pub invariant_of-self : goal.invariant_of-self
invariant_of-self c =
    unchanged (table_of c.self.inside.table) (table_of c.reserve.new.self) (place_of c.self.inside.places) c.reserve.ensures.entries c.self.invariant

pub invariant_of-self-2 : goal.invariant_of-self-2
invariant_of-self-2 c =
    unchanged (table_of c.self.inside.table) (table_of c.reserve.new.self) (place_of c.self.inside.places) c.reserve.ensures.entries c.self.invariant
