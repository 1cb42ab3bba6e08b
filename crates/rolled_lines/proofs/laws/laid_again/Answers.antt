use Rattle.rolled_lines.proofs.HalfLaid.{ends_same, stopped_again, groups_again}
use Rattle.rolled_lines.proofs.laws.laid_again.Goals as goal

pub returns-clause-writes : goal.returns-clause-writes
returns-clause-writes c = ends_same

pub returns-clause-groups : goal.returns-clause-groups
returns-clause-groups c = groups_again

pub returns-clause-stopped : goal.returns-clause-stopped
returns-clause-stopped c = stopped_again
