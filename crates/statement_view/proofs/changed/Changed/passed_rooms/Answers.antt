use Rattle.std.proofs.Common.{rules, sym, ap, arith}
use Rattle.statement_view.specs.Over.{seen_of}
use Rattle.statement_view.proofs.Steps.{noted}
use Rattle.statement_view.proofs.changed.Changed.passed_rooms.Goals as goal

pub returns-in-Some : goal.returns-in-Some
returns-in-Some c = noted c.args.self.now (seen_of c.self.inside.sees_areas c.self.inside.known.now) c.self.inside.lines.entries c.self.inside.passed.entries _ _ _ (ap (λ o. o.base) c.self.view_is) (ap (λ o. o.lines) (sym c.self.view_is)) c.self.invariant (sym c.in-Some.ensures.value) (search rules)

pub returns-in-None : goal.returns-in-None
returns-in-None c = λ nth less. let bad : ⊥ = omega (arith, less) in absurd bad
