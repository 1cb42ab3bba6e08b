use Rattle.std.proofs.Common.{inl, inr, [], map, refl, sym, arith}
use Rattle.std.proofs.lemmas.List.{length-map}
use Rattle.rdo_select.specs.declared.crossing.Found.{Found}
use Rattle.rdo_acts.proofs.looking.tuples_of.Goals as goal

pub returns-in-Ok : goal.returns-in-Ok
returns-in-Ok c ta shown bound =
    inr (map (λ (f : Found). f.tuple) c.in-Ok.found, c.in-Ok.ensures.tuples ta [] shown bound (sym c.new-nothing.ensures), omega (arith, length-map c.in-Ok.found (λ (f : Found). f.tuple), c.len.ensures))

pub returns : goal.returns
returns c ta shown bound = inl refl
