use Rattle.reached_changes.proofs.Changes.{reached}
use Rattle.reached_changes.proofs.laws.changes_are_reached.Goals as goal

pub returns : goal.returns
returns c = reached
