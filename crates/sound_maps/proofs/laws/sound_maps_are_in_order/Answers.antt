use Rattle.sound_maps.specs.Laws.{orderly}
use Rattle.sound_maps.proofs.laws.sound_maps_are_in_order.Goals as goal

pub returns : goal.returns
returns c = orderly
