use Rattle.lock_tree_laws.proofs.MeasureFalls.{served-falls, fewer-falls, asked-fewer, next-fewer, ended-fewer}
use Rattle.lock_tree_laws.proofs.NoEndlessFall.{measure-ends}
use Rattle.lock_tree_laws.proofs.progress.the_measure_falls.Goals as goal

pub returns-clause-served : goal.returns-clause-served
returns-clause-served c = served-falls

pub returns-clause-asked : goal.returns-clause-asked
returns-clause-asked c = λ s r owner w others o q. fewer-falls s r owner others (asked-fewer s r owner w o q)

pub returns-clause-next : goal.returns-clause-next
returns-clause-next c = λ s r owner w v others o q fresh same above on. fewer-falls s r owner others (next-fewer s r owner w v o q fresh same above on)

pub returns-clause-ended : goal.returns-clause-ended
returns-clause-ended c = λ s r owner w others o q. fewer-falls s r owner others (ended-fewer s r owner w o q)

pub returns-clause-not_for_ever : goal.returns-clause-not_for_ever
returns-clause-not_for_ever c = measure-ends
