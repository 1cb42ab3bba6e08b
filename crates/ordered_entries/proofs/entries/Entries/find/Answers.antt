use Rattle.std.proofs.Common.{sym}
use Rattle.ordered_entries.proofs.Place.{find_read, find_gap}
use Rattle.ordered_entries.proofs.entries.Entries.find.Goals as goal

pub returns-in-Ok : goal.returns-in-Ok
returns-in-Ok g c = sym (find_read g.K.Key.order g.met.K.Key.total _ _ _ c.in-Ok.ensures.ordered c.in-Ok.ensures.found _ (rw c.self.view_is at c.index.ensures))

pub returns-in-Err : goal.returns-in-Err
returns-in-Err g c = sym (find_gap g.K.Key.order g.met.K.Key.total _ _ _ c.in-Err.ensures.absent)
