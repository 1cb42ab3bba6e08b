use Rattle.rolled_lines.proofs.Restored as restored
use Rattle.rolled_lines.proofs.laws.restored_stands.Goals as goal

pub returns : goal.returns
returns c = restored.restored_stands
