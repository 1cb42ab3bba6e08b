use Rattle.std.proofs.Common.{arith}
use Rattle.workload_scripts.specs.Draws.{drawn}
use Rattle.workload_scripts.proofs.draws.draw.Goals as goal

pub returns : goal.returns
unfolding drawn
returns c = grind arith
