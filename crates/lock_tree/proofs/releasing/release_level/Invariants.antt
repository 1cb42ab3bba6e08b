use Rattle.std.proofs.Common.{take}
use Rattle.lock_tree_laws.specs.Order.{MakesWay}
use Rattle.lock_tree_laws.specs.Inner.Spare.{UsesSpare}
use Rattle.lock_tree_laws.proofs.Released.{AreReleased}
use Rattle.lock_tree.proofs.releasing.release_level.Given as goal

abbrev pub invariant-loop-need : goal.invariant-loop-need
invariant-loop-need l = AreReleased l.owner l.level (take l.need-index l.party.needs) l.fn.locks l.locks × MakesWay l.owner l.fn.locks l.locks × UsesSpare 0 l.fn.locks l.locks
