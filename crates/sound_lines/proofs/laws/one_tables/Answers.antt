use Rattle.sound_lines.proofs.OneTables as tables
use Rattle.sound_lines.proofs.laws.one_tables.Goals as goal

pub returns : goal.returns
returns c = tables.one_tables
