use Rattle.sound_statements.proofs.Indexes.{index_defined}
use Rattle.sound_statements.proofs.laws.define_index_stays_sound.Goals as goal

pub returns : goal.returns
returns c = index_defined
