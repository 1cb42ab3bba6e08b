use Rattle.lock_tree_laws.proofs.WayMade.{way-then}
use Rattle.lock_tree.proofs.releasing.release_locks.Goals as goal

pub returns-clause-way : goal.returns-clause-way
returns-clause-way c =
    way-then c.args.owner c.args.locks.now c.release_level-4.new.locks c.release_level-5.new.locks
    (way-then c.args.owner c.args.locks.now c.release_level-3.new.locks c.release_level-4.new.locks
    (way-then c.args.owner c.args.locks.now c.release_level-2.new.locks c.release_level-3.new.locks
    (way-then c.args.owner c.args.locks.now c.release_level.new.locks c.release_level-2.new.locks c.release_level.ensures.way c.release_level-2.ensures.way)
    c.release_level-3.ensures.way) c.release_level-4.ensures.way) c.release_level-5.ensures.way
