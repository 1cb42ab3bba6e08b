use Rattle.rdb_top.proofs.Deaths.{dies-besides}
use Rattle.rdb_top.proofs.dying.DyingGate.pass.Goals as goal

pub returns-in_default : goal.returns-in_default
returns-in_default g c die = dies-besides c.args.self.now.death (g.G.Gate.mortals c.args.self.now.gate.now) c.args.s.number (c.pass.ensures die)
