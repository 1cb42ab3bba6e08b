use Rattle.ruj_journal.proofs.Readings as readings
use Rattle.ruj_journal.proofs.header.one_header.Goals as goal

pub returns : goal.returns
returns c = readings.one_header
