use Rattle.sound_lines.proofs.Worked as worked
use Rattle.sound_lines.proofs.laws.worked_is_sound.Goals as goal

pub returns-clause-sound : goal.returns-clause-sound
returns-clause-sound c = worked.worked_is_sound

pub returns-clause-tables : goal.returns-clause-tables
returns-clause-tables c = worked.worked_has_tables
