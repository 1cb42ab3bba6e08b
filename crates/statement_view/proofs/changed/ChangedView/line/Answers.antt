use Rattle.std.proofs.Common.{rules, sym, ap}
use Rattle.statement_view.specs.Over.{seen_of}
use Rattle.statement_view.proofs.Steps.{line_over, line_below}
use Rattle.statement_view.proofs.changed.ChangedView.line.Goals as goal

pub returns-in-None : goal.returns-in-None
returns-in-None c = line_below c.self.inside.lines.entries c.args.self.now (seen_of c.self.inside.sees_areas c.self.inside.known.now) c.args.key c.line.result (ap (λ o. o.lines) (sym c.self.view_is)) (ap (λ o. o.base) c.self.view_is) (sym c.in-None.ensures.value) c.line.ensures

pub returns-in-Some-None : goal.returns-in-Some-None
returns-in-Some-None c = line_over c.self.inside.lines.entries c.args.self.now c.args.key _ (ap (λ o. o.lines) (sym c.self.view_is)) (search rules)

pub returns-in-Some-Some : goal.returns-in-Some-Some
returns-in-Some-Some c = line_over c.self.inside.lines.entries c.args.self.now c.args.key _ (ap (λ o. o.lines) (sym c.self.view_is)) (search rules)
