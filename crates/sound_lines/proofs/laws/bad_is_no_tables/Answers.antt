use Rattle.sound_lines.proofs.BadRows.{no_tables}
use Rattle.sound_lines.proofs.laws.bad_is_no_tables.Goals as goal

pub returns : goal.returns
returns c = no_tables
