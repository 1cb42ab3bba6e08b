use Rattle.rdb_outside.proofs.Reading.{read_front}
use Rattle.rdb_outside.proofs.memory_streams.Script.read.Goals as goal

pub returns-clause-given : goal.returns-clause-given
returns-clause-given c =
    let h = rw c.deref.ensures.value at c.copy_from_slice.ensures.after in
    let m = rw c.deref.ensures.value at c.min-count.ensures in
    rw (← c.self.view_is) (read_front _ _ _ _ _ c.self.invariant h m)
