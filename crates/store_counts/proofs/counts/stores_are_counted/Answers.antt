use Rattle.store_counts.proofs.Kept.{counted-start, counted-on, counted-changes, counted-commits, counted-takes}
use Rattle.store_counts.proofs.counts.stores_are_counted.Goals as goal

pub returns-clause-opened : goal.returns-clause-opened
returns-clause-opened c = counted-start

pub returns-clause-moves : goal.returns-clause-moves
returns-clause-moves c = counted-on

pub returns-clause-changes : goal.returns-clause-changes
returns-clause-changes c = counted-changes

pub returns-clause-commits : goal.returns-clause-commits
returns-clause-commits c = counted-commits

pub returns-clause-takes : goal.returns-clause-takes
returns-clause-takes c = counted-takes
