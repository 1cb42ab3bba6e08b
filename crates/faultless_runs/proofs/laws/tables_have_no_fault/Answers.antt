use Rattle.sound_maps.specs.Maps.{IsSoundWith}
use Rattle.faultless_runs.proofs.Runs.{is_sound, standing}
use Rattle.faultless_runs.proofs.laws.tables_have_no_fault.Goals as goal

pub returns : goal.returns
returns c = standing IsSoundWith is_sound
