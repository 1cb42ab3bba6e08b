use Rattle.store_counts.proofs.Kept.{counted-events, counted-begins, counted-gets}
use Rattle.store_counts.proofs.counts.counts_go_on.Goals as goal

pub returns-clause-events : goal.returns-clause-events
returns-clause-events c = counted-events

pub returns-clause-begins : goal.returns-clause-begins
returns-clause-begins c = counted-begins

pub returns-clause-gets : goal.returns-clause-gets
returns-clause-gets c = counted-gets
