use Rattle.ruj_journal.proofs.Readings as readings
use Rattle.ruj_journal.proofs.entry.one_entry.Goals as goal

pub returns : goal.returns
returns c = readings.one_entry
