use Rattle.line_view.proofs.Steps.{room_shown, not_shown, is_shown}
use Rattle.std.proofs.Common.{rules, refl, sym, ap, ◌∙◌}
use Rattle.line_view.proofs.known.KnownView.room.Goals as goal

pub returns-in-Present : goal.returns-in-Present
returns-in-Present c =
    let shown = room_shown c.self.inside.rooms.entries c.args.self.now c.args.room c.in_ok-key.field-0.now _ (ap (λ h. h.rooms) (sym c.self.view_is)) (search rules) refl in
    sym (shown ∙ is_shown c.line.result _ _ c.in_ok-key.field-0.now c.line.ensures c.in-Present.is)

pub returns : goal.returns
returns c =
    let shown = room_shown c.self.inside.rooms.entries c.args.self.now c.args.room c.in_ok-key.field-0.now _ (ap (λ h. h.rooms) (sym c.self.view_is)) (search rules) refl in
    sym (shown ∙ not_shown c.line.result _ c.in_ok-key.field-0.now c.line.ensures c.in_default.not-Present)
