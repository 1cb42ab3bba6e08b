use Rattle.restored_rolls.proofs.Following as following
use Rattle.restored_rolls.proofs.laws.copies_follow.Goals as goal

pub returns-clause-journal : goal.returns-clause-journal
returns-clause-journal c = following.alone

pub returns-clause-copy : goal.returns-clause-copy
returns-clause-copy c = following.copied

pub returns-clause-gives : goal.returns-clause-gives
returns-clause-gives c = following.gives
