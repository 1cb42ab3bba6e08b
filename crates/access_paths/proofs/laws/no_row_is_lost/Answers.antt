use Rattle.access_paths.proofs.Reaching.{reached}
use Rattle.access_paths.proofs.laws.no_row_is_lost.Goals as goal

pub returns : goal.returns
returns c = reached
