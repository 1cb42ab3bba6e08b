use Rattle.sorted_index_laws.proofs.OnTheWay.{is_place, on_way_present}
use Rattle.sorted_index_laws.proofs.laws.the_way_is_in_the_index.Goals as goal

pub returns : goal.returns
returns c = record { places = is_place; present = on_way_present }
