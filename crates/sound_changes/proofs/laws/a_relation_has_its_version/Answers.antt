use Rattle.sound_changes.proofs.Versions.{versions_rise_to}
use Rattle.sound_changes.proofs.laws.a_relation_has_its_version.Goals as goal

pub returns : goal.returns
returns c = record { rise = versions_rise_to }
