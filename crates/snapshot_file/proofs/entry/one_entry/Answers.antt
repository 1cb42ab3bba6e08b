use Rattle.snapshot_file.proofs.Readings as readings
use Rattle.snapshot_file.proofs.entry.one_entry.Goals as goal

pub returns : goal.returns
returns c = readings.one_entry
