use Rattle.store_counts.proofs.Limits.{ruj-cause, snap-cause, aij-cause, area-cause}
use Rattle.store_counts.proofs.causes.limits_have_causes.Goals as goal

pub returns-clause-ruj : goal.returns-clause-ruj
returns-clause-ruj c = ruj-cause

pub returns-clause-snap : goal.returns-clause-snap
returns-clause-snap c = snap-cause

pub returns-clause-aij : goal.returns-clause-aij
returns-clause-aij c = aij-cause

pub returns-clause-area : goal.returns-clause-area
returns-clause-area c = area-cause
