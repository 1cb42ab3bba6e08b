use Rattle.std.proofs.Common.{◌≡◌, ap, arith}
use Rattle.workload_runs.proofs.Among.{all-may-fail, among-made}
use Rattle.workload_runs.proofs.saying.say.Goals as goal

pub say_in_threads-requires-clause-mortal : goal.say_in_threads-requires-clause-mortal
say_in_threads-requires-clause-mortal g c κs within = all-may-fail (g.G.Gate.mortals c.args.gate.now) g.O.Origin.opening c.requires.mortals

pub say_in_threads-requires-clause-mortals : goal.say_in_threads-requires-clause-mortals
say_in_threads-requires-clause-mortals g c κs within =
    let n : c.of.result.sessions ≡ g.O.Origin.sessions = omega (arith, c.args.said.scripts.ok.0) in
    among-made (g.G.Gate.mortals c.args.gate.now) (g.G.Gate.mortals c.of.result.gate.now) g.O.Origin.opening g.O.Origin.sessions c.of.result.sessions
    (ap g.G.Gate.mortals c.of.ensures.gate) n c.requires.mortals

pub say_in_threads-requires-clause-former : goal.say_in_threads-requires-clause-former
say_in_threads-requires-clause-former g c κs within = record { in_use = λ is. is; stood = λ number since b has. has }
