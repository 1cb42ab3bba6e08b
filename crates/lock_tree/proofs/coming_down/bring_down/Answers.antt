use Rattle.lock_tree_laws.proofs.WayMade.{way-then}
use Rattle.lock_tree.proofs.coming_down.bring_down.Goals as goal

pub returns-clause-way : goal.returns-clause-way
returns-clause-way c = way-then c.args.owner c.args.locks.now c.take_lower.new.locks c.lower.new.locks c.take_lower.ensures.way c.lower.ensures.way
