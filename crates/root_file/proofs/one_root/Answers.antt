use Rattle.root_file.proofs.Readings as readings
use Rattle.root_file.proofs.one_root.Goals as goal

pub returns : goal.returns
returns c = readings.one_root
