use Rattle.std.proofs.Common.{◌≡◌, ℕ, List, ◌+◌, ◌-◌, ◌≤◌, ◌<◌, take, drop, length, Some, None, ap, sym, subst, ◌∙◌, arith}
use Rattle.std.specs.List.{fold}
use Rattle.std.proofs.lemmas.List.{length-take, length-drop}
use Rattle.rdo_parser.specs.declared.place.Place.{Place}
use Rattle.rdo_parser.specs.Places.{behind_byte, place_behind}
use Rattle.rdo_parser.specs.Reader.{Reading}
use Rattle.rdo_parser.specs.Script.{item_at}
use Rattle.rdo_parser.proofs.PlaceLaws.{place_small, place_more}
use Rattle.rdo_parser.proofs.ScriptLaws.{no_item, one_item, stops_behind}
use Rattle.rdo_parser.proofs.items.Script.next_item.Goals as goal

pub returns-in-None-clause-ok : goal.returns-in-None-clause-ok
returns-in-None-clause-ok c =
    let none = ap (λ (r : Reading). r.items) (sym c.self.view_is) ∙ no_item c.self.inside.text.now c.self.inside.at c.self.invariant.within (sym c.in_ok-item_at.ensures.value ∙ c.in-None.is) in (none, none)

pub behind-self-inside-requires : goal.behind-self-inside-requires
behind-self-inside-requires c =
    let s = c.self.inside in
    let small : s.place.line + s.place.column ≤ s.at + 2 = subst (λ (p : Place). p.line + p.column ≤ s.at + 2) (sym c.self.invariant.here) (place_small s.text.now s.at c.self.invariant.within) in
    omega (arith, small, c.self.invariant.long, c.self.invariant.within, length-take (c.in-Some.found.next - s.at) (drop s.at s.text.now), length-drop s.at s.text.now)

pub invariant_of-self : goal.invariant_of-self
invariant_of-self c =
    let s = c.self.inside in
    let moves : (s.at < c.in-Some.found.next) × (c.in-Some.found.next ≤ length s.text.now) = rw c.in-Some.is at c.in_ok-item_at.ensures.moves in
    let later : s.at ≤ c.in-Some.found.next = omega (arith, moves.0) in
    record {
      long = c.self.invariant.long;
      within = moves.1;
      here = c.behind-self-inside.ensures ∙ ap (λ (p : Place). fold behind_byte p (take (c.in-Some.found.next - s.at) (drop s.at s.text.now))) c.self.invariant.here
          ∙ place_more s.text.now s.at c.in-Some.found.next later;
    }

pub returns-in-Some-clause-ok : goal.returns-in-Some-clause-ok
returns-in-Some-clause-ok c =
    ap (λ (r : Reading). r.items) (sym c.self.view_is) ∙ one_item c.self.inside.text.now c.self.inside.at c.in-Some.found c.self.invariant.within (sym c.in_ok-item_at.ensures.value ∙ c.in-Some.is)

pub returns-in-Some-clause-stops : goal.returns-in-Some-clause-stops
returns-in-Some-clause-stops c =
    sym (ap (λ (r : Reading). r.stops) (sym c.self.view_is) ∙ stops_behind c.self.inside.text.now c.self.inside.at c.in-Some.found c.self.invariant.within (sym c.in_ok-item_at.ensures.value ∙ c.in-Some.is))
