use Rattle.sound_definitions.proofs.NewLine.{index_defined}
use Rattle.sound_definitions.proofs.laws.an_index_is_defined.Goals as goal

pub returns : goal.returns
returns c = index_defined
