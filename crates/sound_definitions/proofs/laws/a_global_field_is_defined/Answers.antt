use Rattle.sound_definitions.proofs.NewLine.{global_defined}
use Rattle.sound_definitions.proofs.laws.a_global_field_is_defined.Goals as goal

pub returns : goal.returns
returns c = global_defined
