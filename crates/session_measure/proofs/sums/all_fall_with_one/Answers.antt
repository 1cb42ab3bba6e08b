use Rattle.session_measure.proofs.Falling.{sums-fall}
use Rattle.session_measure.proofs.sums.all_fall_with_one.Goals as goal

pub returns : goal.returns
returns c = sums-fall
