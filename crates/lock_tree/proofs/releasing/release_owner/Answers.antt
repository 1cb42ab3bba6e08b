use Rattle.lock_tree_laws.proofs.WayMade.{way-then}
use Rattle.lock_tree.proofs.releasing.release_owner.Goals as goal

pub returns-clause-way : goal.returns-clause-way
returns-clause-way c = way-then c.args.owner c.args.locks.now c.stop_sleeping.new.locks c.release_locks.new.locks c.stop_sleeping.ensures.way c.release_locks.ensures.way
