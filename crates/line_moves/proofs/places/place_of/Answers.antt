use Rattle.line_moves.proofs.places.place_of.Goals as goal

pub returns-in_default-clause-none : goal.returns-in_default-clause-none
returns-in_default-clause-none c = λ place is. c.in_default.ensures.none place.file is.owner
