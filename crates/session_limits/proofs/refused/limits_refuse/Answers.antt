use Rattle.session_limits.proofs.AtLimits.{ruj-full-on, snap-full-on, aij-full-on, area-full-on}
use Rattle.session_limits.proofs.refused.limits_refuse.Goals as goal

pub returns-clause-ruj_full : goal.returns-clause-ruj_full
returns-clause-ruj_full g c = ruj-full-on g.S.Statements.stands g.met.S.Statements.orderly

pub returns-clause-snap_full : goal.returns-clause-snap_full
returns-clause-snap_full g c = snap-full-on g.S.Statements.stands g.met.S.Statements.orderly

pub returns-clause-aij_full : goal.returns-clause-aij_full
returns-clause-aij_full g c = aij-full-on g.S.Statements.stands g.met.S.Statements.orderly

pub returns-clause-area_full : goal.returns-clause-area_full
returns-clause-area_full g c = area-full-on g.S.Statements.stands g.met.S.Statements.orderly
