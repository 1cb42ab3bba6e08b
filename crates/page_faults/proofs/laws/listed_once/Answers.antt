use Rattle.page_faults.proofs.Listed.{apart, one_of_all}
use Rattle.page_faults.proofs.laws.listed_once.Goals as goal

pub returns-clause-apart : goal.returns-clause-apart
returns-clause-apart c = apart

pub returns-clause-one : goal.returns-clause-one
returns-clause-one c = one_of_all
