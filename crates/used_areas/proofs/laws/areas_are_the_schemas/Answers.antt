use Rattle.used_areas.proofs.Same.{read_same, changed_same}
use Rattle.used_areas.proofs.laws.areas_are_the_schemas.Goals as goal

pub returns : goal.returns
returns c = record { read = read_same; changed = changed_same }
