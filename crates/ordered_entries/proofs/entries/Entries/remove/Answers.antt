use Rattle.std.proofs.Common.{sym}
use Rattle.ordered_entries.proofs.Place.{find_read, find_gap, without_at, without_none, sorted_without}
use Rattle.ordered_entries.proofs.entries.Entries.remove.Goals as goal

pub returns-in-Ok-clause-value : goal.returns-in-Ok-clause-value
returns-in-Ok-clause-value g c = sym (find_read g.K.Key.order g.met.K.Key.total _ _ _ c.in-Ok.ensures.ordered c.in-Ok.ensures.found _ (rw c.self.view_is at c.remove-value.ensures.value))

pub returns-in-Ok-clause-removed : goal.returns-in-Ok-clause-removed
returns-in-Ok-clause-removed g c = rw (c.remove-value.ensures.items, c.self.view_is) (sym (without_at g.K.Key.order g.met.K.Key.total _ _ _ c.in-Ok.ensures.ordered c.in-Ok.ensures.found))

pub invariant_of-self : goal.invariant_of-self
invariant_of-self g c = rw (returns-in-Ok-clause-removed g c) (sorted_without g.K.Key.order g.met.K.Key.total _ _ c.in-Ok.ensures.ordered)

pub returns-in-Err-clause-value : goal.returns-in-Err-clause-value
returns-in-Err-clause-value g c = sym (find_gap g.K.Key.order g.met.K.Key.total _ _ _ c.in-Err.ensures.absent)

pub returns-in-Err-clause-removed : goal.returns-in-Err-clause-removed
returns-in-Err-clause-removed g c = sym (without_none g.K.Key.order g.met.K.Key.total _ _ (sym (returns-in-Err-clause-value g c)))
