use Rattle.sound_statements.proofs.Relations.{relation_defined}
use Rattle.sound_statements.proofs.laws.define_relation_stays_sound.Goals as goal

pub returns : goal.returns
returns c = relation_defined
