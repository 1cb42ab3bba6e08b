use Rattle.std.proofs.Common.{rules, sym, ap}
use Rattle.line_view.proofs.Steps.{line_found}
use Rattle.line_view.proofs.known.KnownView.line.Goals as goal

pub returns-in-None : goal.returns-in-None
returns-in-None c = line_found c.self.inside.lines.entries c.args.self.now c.args.key _ (ap (λ h. h.lines) (sym c.self.view_is)) (sym c.in-None.ensures.value)

pub returns-in-Some-None : goal.returns-in-Some-None
returns-in-Some-None c = line_found c.self.inside.lines.entries c.args.self.now c.args.key _ (ap (λ h. h.lines) (sym c.self.view_is)) (search rules)

pub returns-in-Some-Some : goal.returns-in-Some-Some
returns-in-Some-Some c = line_found c.self.inside.lines.entries c.args.self.now c.args.key _ (ap (λ h. h.lines) (sym c.self.view_is)) (search rules)
