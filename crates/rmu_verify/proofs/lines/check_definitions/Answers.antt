use Rattle.std.proofs.Common.{inl, refl}
use Rattle.rmu_verify.proofs.lines.check_definitions.Goals as goal

pub returns-in-Ok-clause-checked : goal.returns-in-Ok-clause-checked
returns-in-Ok-clause-checked g c = λ t left so groups lines lays stands.
    c.in-Ok.ensures.checked lines stands.in_order (c.in_ok-lines.ensures.lines t 1 (inl (refl, refl)) left so groups lines lays stands)
