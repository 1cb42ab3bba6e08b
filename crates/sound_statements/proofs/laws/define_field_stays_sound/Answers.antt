use Rattle.sound_statements.proofs.Fields.{field_defined}
use Rattle.sound_statements.proofs.laws.define_field_stays_sound.Goals as goal

pub returns : goal.returns
returns c = field_defined
