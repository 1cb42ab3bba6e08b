use Rattle.vms_locks.proofs.locks.Locks.waits_for.Goals as goal

pub returns : goal.returns
returns c = rw (← c.self.view_is) c.waits_for.ensures
