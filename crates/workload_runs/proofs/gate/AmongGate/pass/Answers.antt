use Rattle.workload_runs.proofs.Among.{dies-among}
use Rattle.workload_runs.proofs.gate.AmongGate.pass.Goals as goal

pub returns-then-s-self : goal.returns-then-s-self
returns-then-s-self g c die =
    dies-among c.args.self.now.sessions c.args.s.number (g.G.Gate.mortals c.args.self.now.gate.now) c.if-s-ge1.true c.if-s-self.true (c.pass.ensures die)
