use Rattle.sound_definitions.proofs.GoneIndexes.{indexes_deleted}
use Rattle.sound_definitions.proofs.laws.an_index_is_deleted.Goals as goal

pub returns : goal.returns
returns c = indexes_deleted
