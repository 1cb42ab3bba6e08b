use Rattle.faultless_databases.proofs.Whole.{no_fault}
use Rattle.faultless_databases.proofs.laws.a_sound_database_has_no_fault.Goals as goal

pub returns : goal.returns
returns c = no_fault
