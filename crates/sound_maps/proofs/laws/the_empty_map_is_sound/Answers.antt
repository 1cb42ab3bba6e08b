use Rattle.sound_maps.specs.Laws.{empty}
use Rattle.sound_maps.proofs.laws.the_empty_map_is_sound.Goals as goal

pub returns : goal.returns
returns c = empty
