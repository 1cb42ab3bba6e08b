use Rattle.std.proofs.Common.{sym}
use mathlib.Core.Bool.{false≢true}
use Rattle.ordered_entries.proofs.Place.{find_gap, put_read, put_gap, sorted_put}
use Rattle.ordered_entries.proofs.entries.Entries.put.Goals as goal

-- the key is there, and its entry takes the value
pub returns-in-Ok-clause-ok : goal.returns-in-Ok-clause-ok
returns-in-Ok-clause-ok g c = rw c.self.view_is (sym (put_read g.K.Key.order g.met.K.Key.total _ _ _ c.in-Ok.ensures.ordered c.in-Ok.ensures.found _ (rw c.self.view_is at c.index_mut.ensures.value) _))

pub invariant_of-self : goal.invariant_of-self
invariant_of-self g c = rw (returns-in-Ok-clause-ok g c) (sorted_put g.K.Key.order g.met.K.Key.total _ _ _ c.in-Ok.ensures.ordered)

-- the entry goes into the gap
pub returns-in_ok-insert-in-Err-clause-ok : goal.returns-in_ok-insert-in-Err-clause-ok
returns-in_ok-insert-in-Err-clause-ok g c = rw (c.in_ok-insert-in-Err.ensures.items, c.self.view_is) (sym (put_gap g.K.Key.order g.met.K.Key.total _ _ _ _ c.in-Err.ensures.absent))

pub invariant_of-self-in-Err : goal.invariant_of-self-in-Err
invariant_of-self-in-Err g c = rw (returns-in_ok-insert-in-Err-clause-ok g c) (sorted_put g.K.Key.order g.met.K.Key.total _ _ _ c.in-Err.ensures.ordered)

pub returns-in_err-insert-in-Err-clause-present : goal.returns-in_err-insert-in-Err-clause-present
returns-in_err-insert-in-Err-clause-present g c found = absurd (false≢true (rw (find_gap g.K.Key.order g.met.K.Key.total _ _ _ c.in-Err.ensures.absent) at found))
