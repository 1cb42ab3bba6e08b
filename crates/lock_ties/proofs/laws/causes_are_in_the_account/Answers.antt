use Rattle.lock_ties.proofs.Answers.{sleeper-waits, conflict-lawful, deadlock-lawful}
use Rattle.lock_ties.proofs.laws.causes_are_in_the_account.Goals as goal

pub returns-clause-asleep : goal.returns-clause-asleep
returns-clause-asleep c = λ o p s n x is_open old new wait t tied call a. sleeper-waits o p s n x is_open old new a.1.0 t tied call a.1.1 a.1.2 a.1.3

pub returns-clause-conflict : goal.returns-clause-conflict
returns-clause-conflict c = λ o p s n x is_open old new wait t tied call a nowait. conflict-lawful o p s n x is_open old new t tied call a.1 nowait

pub returns-clause-deadlock : goal.returns-clause-deadlock
returns-clause-deadlock c = λ o p s n x is_open old new wait cycle tied call a. deadlock-lawful o p s n x is_open old new cycle tied call a.1
