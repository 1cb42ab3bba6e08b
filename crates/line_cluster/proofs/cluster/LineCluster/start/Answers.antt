use Rattle.line_cluster.proofs.Beginning.{starts}
use Rattle.line_cluster.proofs.Room.{room-first}
use Rattle.line_cluster.proofs.cluster.LineCluster.start.Goals as goal

pub invariant_of-result : goal.invariant_of-result
invariant_of-result g c = starts g.S.Statements.stands g.met.S.Statements.orderly g.O.Origin.told g.O.Origin.opening g.O.Origin.faults g.O.Origin.sessions _ c.args.scripts.items _ _ _ _ (g.L.LineStore.agrees c.args.store) (g.L.LineStore.stands c.args.store) (g.L.LineStore.opens c.args.store) c.requires.outside c.new-2.ensures.parties c.new-2.ensures.trail c.requires.scripts c.requires.opened c.in-Ok.ensures.members c.in-Ok.ensures.stops c.in-Ok-with_capacity.ensures.items c.requires.sessions c.requires.few c.requires.mortal (room-first _ _ c.in-Ok-with_capacity.ensures.len c.in-Ok-with_capacity.ensures.capacity)
