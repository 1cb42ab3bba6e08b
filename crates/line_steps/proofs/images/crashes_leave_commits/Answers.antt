use Rattle.line_steps.proofs.Crashes.{stands-now, left-more, left-goes-on}
use Rattle.line_steps.proofs.images.crashes_leave_commits.Goals as goal

pub returns-clause-now : goal.returns-clause-now
returns-clause-now g c = stands-now g.S.Statements.stands g.met.S.Statements.orderly

pub returns-clause-events : goal.returns-clause-events
returns-clause-events g c = λ o events es store. left-more g.S.Statements.stands g.met.S.Statements.orderly o events es (g.L.LineStore.sight store).left (g.L.LineStore.sight store).opens

pub returns-clause-call : goal.returns-clause-call
returns-clause-call g c = λ o events es old new h k shown. left-goes-on g.S.Statements.stands g.met.S.Statements.orderly o events es (g.L.LineStore.sight old).left (g.L.LineStore.sight new).left (g.L.LineStore.sight old).opens (g.L.LineStore.sight new).opens h k (g.L.LineStore.stands new k shown)
