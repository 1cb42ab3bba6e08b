use Rattle.std.proofs.Common.{◌≡◌, ◌+◌, ◌-◌, ◌≤◌, take, drop, ap, sym, subst, refl, ◌∙◌, arith}
use Rattle.std.specs.List.{fold}
use Rattle.std.proofs.lemmas.List.{length-take, length-drop, take_rest}
use Rattle.rdo_parser.specs.declared.place.Place.{Place}
use Rattle.rdo_parser.specs.Places.{behind_byte, place_behind}
use Rattle.rdo_parser.specs.Script.{syntax_at}
use Rattle.rdo_parser.proofs.PlaceLaws.{place_small, place_more}
use Rattle.rdo_parser.proofs.items.fault.Goals as goal

pub behind-place-requires : goal.behind-place-requires
behind-place-requires c =
    let small : c.args.place.line + c.args.place.column ≤ c.args.at + 2 = subst (λ (p : Place). p.line + p.column ≤ c.args.at + 2) (sym c.requires.here) (place_small c.args.text.now c.args.at (omega arith)) in
    omega (arith, small, c.requires.long, length-take (c.args.offending - c.args.at) (drop c.args.at c.args.text.now), length-drop c.args.at c.args.text.now)

pub returns-clause-value : goal.returns-clause-value
unfolding syntax_at
returns-clause-value c =
    let place : c.behind-place.result ≡ place_behind (take c.args.offending c.args.text.now) =
    c.behind-place.ensures ∙ ap (λ (p : Place). fold behind_byte p (take (c.args.offending - c.args.at) (drop c.args.at c.args.text.now))) c.requires.here
    ∙ place_more c.args.text.now c.args.at c.args.offending c.requires.order.0 in
    rw (place, c.line_len.ensures.value, take_rest c.args.text.now c.args.offending) refl
