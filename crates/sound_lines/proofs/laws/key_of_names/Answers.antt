use Rattle.sound_lines.proofs.Longest.{of_names}
use Rattle.sound_lines.proofs.laws.key_of_names.Goals as goal

pub returns : goal.returns
returns c = of_names
