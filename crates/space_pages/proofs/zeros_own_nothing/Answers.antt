use Rattle.space_pages.proofs.Entries.{no_owner, no_level}
use Rattle.space_pages.proofs.zeros_own_nothing.Goals as goal

pub returns-clause-owner : goal.returns-clause-owner
returns-clause-owner c = no_owner

pub returns-clause-level : goal.returns-clause-level
returns-clause-level c = no_level
