use Rattle.std.proofs.Common.{sym, ◌∙◌, ap}
use Rattle.std.proofs.lemmas.List.{take_rest}
use Rattle.rdo_tokens.specs.Lex.{Text, tokens}
use Rattle.rdo_parser.specs.Reader.{Reading}
use Rattle.rdo_parser.specs.Script.{begins_stop}
use Rattle.rdo_parser.proofs.ScriptLaws.{none_here, stops_here}
use Rattle.rdo_parser.proofs.items.Script.stops.Goals as goal

pub returns : goal.returns
returns c = λ none.
    let s = c.self.inside in
    let here = none_here s.text.now s.at c.self.invariant.within (ap (λ (r : Reading). r.items) c.self.view_is ∙ none) in
    c.begins_stop.ensures ∙ ap (λ (z : Text). begins_stop (tokens z)) (take_rest s.text.now s.at) ∙ sym (ap (λ (r : Reading). r.stops) (sym c.self.view_is) ∙ stops_here s.text.now s.at c.self.invariant.within here)
