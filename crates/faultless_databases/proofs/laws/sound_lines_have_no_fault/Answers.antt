use Rattle.faultless_databases.proofs.Whole.{no_line}
use Rattle.faultless_databases.proofs.laws.sound_lines_have_no_fault.Goals as goal

pub returns : goal.returns
returns c = no_line
