use Rattle.verified_lines.proofs.Clean.{clean}
use Rattle.verified_lines.proofs.laws.no_fault_is_sound.Goals as goal

pub returns : goal.returns
returns c = clean
