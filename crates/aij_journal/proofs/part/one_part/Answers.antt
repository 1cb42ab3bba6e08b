use Rattle.aij_journal.proofs.Readings as readings
use Rattle.aij_journal.proofs.part.one_part.Goals as goal

pub returns : goal.returns
returns c = readings.one_part
