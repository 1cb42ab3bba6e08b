use Rattle.rolled_lines.proofs.Following as following
use Rattle.rolled_lines.proofs.laws.journals_follow.Goals as goal

pub returns-clause-whole : goal.returns-clause-whole
returns-clause-whole c = following.follows

pub returns-clause-rolled : goal.returns-clause-rolled
returns-clause-rolled c = following.rolls
