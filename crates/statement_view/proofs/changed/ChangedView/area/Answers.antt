use Rattle.std.proofs.Common.{rules, sym, ap, ◌∙◌}
use Rattle.statement_view.specs.Over.{seen_of}
use Rattle.statement_view.proofs.Steps.{area_over, area_below}
use Rattle.statement_view.proofs.changed.ChangedView.area.Goals as goal

pub returns-in-Some : goal.returns-in-Some
returns-in-Some c = sym (area_over c.self.inside.areas.entries c.args.self.now c.args.area c.in-Some.keys.now (ap (λ o. o.areas) (sym c.self.view_is)) (search rules))

pub returns-in-None : goal.returns-in-None
returns-in-None c = c.seen_area.ensures ∙ area_below c.self.inside.areas.entries c.args.self.now (seen_of c.self.inside.sees_areas c.self.inside.known.now) c.args.area (ap (λ o. o.areas) (sym c.self.view_is)) (ap (λ o. o.base) c.self.view_is) (sym c.in-None.ensures.value)
