use Rattle.sound_lines.proofs.Empty as empty
use Rattle.sound_lines.proofs.laws.empty_is_sound.Goals as goal

pub returns-clause-sound : goal.returns-clause-sound
returns-clause-sound c = empty.empty_is_sound

pub returns-clause-tables : goal.returns-clause-tables
returns-clause-tables c = empty.empty_has_tables
