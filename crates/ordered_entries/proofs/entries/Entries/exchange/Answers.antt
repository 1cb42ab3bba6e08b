use Rattle.std.proofs.Common.{sym}
use Rattle.ordered_entries.proofs.Place.{find_read, find_gap, put_read, sorted_put}
use Rattle.ordered_entries.proofs.entries.Entries.exchange.Goals as goal

pub returns-in-Ok-clause-found : goal.returns-in-Ok-clause-found
returns-in-Ok-clause-found g c = rw c.replace.ensures.value (sym (find_read g.K.Key.order g.met.K.Key.total _ _ _ c.in-Ok.ensures.ordered c.in-Ok.ensures.found _ (rw c.self.view_is at c.index_mut.ensures.value)))

pub returns-in-Ok-clause-some : goal.returns-in-Ok-clause-some
returns-in-Ok-clause-some g c = rw (c.self.view_is, c.replace.ensures.after) (sym (put_read g.K.Key.order g.met.K.Key.total _ _ _ c.in-Ok.ensures.ordered c.in-Ok.ensures.found _ (rw c.self.view_is at c.index_mut.ensures.value) _))

pub invariant_of-self : goal.invariant_of-self
invariant_of-self g c = rw (returns-in-Ok-clause-some g c) (sorted_put g.K.Key.order g.met.K.Key.total _ _ _ c.in-Ok.ensures.ordered)

pub returns-in-Err-clause-found : goal.returns-in-Err-clause-found
returns-in-Err-clause-found g c = sym (find_gap g.K.Key.order g.met.K.Key.total _ _ _ c.in-Err.ensures.absent)
