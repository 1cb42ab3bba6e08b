use Rattle.std.proofs.Common.{rules, false, [], sym, subst}
use Rattle.statement_view.specs.Over.{Over, Stands, seen_of}
use Rattle.statement_view.proofs.Agreeing.{begins, sees_less}
use Rattle.statement_view.proofs.changed.Changed.without_areas.Goals as goal

pub returns-clause-stands : goal.returns-clause-stands
returns-clause-stands c = λ first ordered agrees.
    subst (λ (o : Over). Stands o first) {x = record { base = seen_of false c.args.known.now; lines = []; areas = [] }} (sym (search rules))
    (begins (seen_of false c.args.known.now) first ordered (sees_less c.args.known.now first agrees))
