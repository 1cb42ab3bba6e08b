use Rattle.selection_areas.proofs.Placed.{sources_placed, target_placed}
use Rattle.selection_areas.proofs.laws.areas_are_those_of_the_tables.Goals as goal

pub returns : goal.returns
returns c = record { sources = sources_placed; target = target_placed }
