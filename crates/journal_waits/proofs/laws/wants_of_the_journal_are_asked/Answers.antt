use Rattle.journal_waits.proofs.Askings.{got-asked, asleep-asked}
use Rattle.journal_waits.proofs.laws.wants_of_the_journal_are_asked.Goals as goal

pub returns-clause-got : goal.returns-clause-got
returns-clause-got c = got-asked

pub returns-clause-asleep : goal.returns-clause-asleep
returns-clause-asleep c = asleep-asked
