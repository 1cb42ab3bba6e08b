use Rattle.std.proofs.Common.{◌∙◌, sym, refl}
use Rattle.line_cluster.proofs.sessions.Core.recover.Goals as goal

pub returns-then-is_some-clause-came : goal.returns-then-is_some-clause-came
returns-then-is_some-clause-came g c = record { halted = sym c.is_some.ensures ∙ c.if-is_some.true; members = refl; events = refl; rests = λ stopped. refl }
