use Rattle.vms_locks.proofs.locks.Locks.cycle_through.Goals as goal

pub returns-clause-cycle : goal.returns-clause-cycle
returns-clause-cycle c = rw (← c.self.view_is) c.find_cycle.ensures.cycle

pub returns-clause-none : goal.returns-clause-none
returns-clause-none c = rw (← c.self.view_is) c.find_cycle.ensures.none
