use Rattle.lock_tree_laws.proofs.NeedsInWay.{waits-in_needed}
use Rattle.lock_tree_laws.proofs.laws.waits_are_by_needs.Goals as goal

pub returns : goal.returns
returns c = waits-in_needed
