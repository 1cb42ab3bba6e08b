use Rattle.std.proofs.Common.{arith}
use Rattle.store_copies.proofs.SetCopies.{ready-got}
use Rattle.store_copies.proofs.copies.Copies.of.Goals as goal

pub returns-clause-ready : goal.returns-clause-ready
returns-clause-ready c =
    let last = c.requires.last in
    let long = c.self.invariant.0 in
    ready-got c.self.inside.sessions c.args.s.number (omega (arith, last, long)) c.self.invariant.3
