use Rattle.std.proofs.Common.{rules, [], sym, subst}
use Rattle.statement_view.specs.Over.{Over, Stands}
use Rattle.statement_view.proofs.Agreeing.{begins}
use Rattle.statement_view.proofs.changed.Changed.new.Goals as goal

pub returns-clause-stands : goal.returns-clause-stands
returns-clause-stands c = λ first ordered agrees. subst (λ (o : Over). Stands o first) {x = record { base = c.args.known.now; lines = []; areas = [] }} (sym (search rules)) (begins c.args.known.now first ordered agrees)
