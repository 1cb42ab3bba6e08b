use Rattle.std.proofs.Common.{[]}
use Rattle.line_store.specs.Seats.{changing}
use Rattle.line_store.specs.Calls.{Changes}
use Rattle.line_store.proofs.InTurn.{does-as}
use Rattle.stepped_jobs.specs.Applying.{Applies}
use Rattle.stepped_jobs.proofs.Following.{applied, seated-so}
use Rattle.stepped_jobs.proofs.applying.apply.Goals as goal

pub returns-clause-ok : goal.returns-clause-ok
returns-clause-ok g c =
    let old = g.L.LineStore.sight c.args.store.now in
    does-as c.args.s.number (changing []) (Changes c.args.s.number c.args.writes.now) (Applies c.args.s.number c.args.writes.now c.args.known.now c.follow.new.known) old (g.L.LineStore.sight c.change.new.self)
    (λ h k shown behind changes. applied c.args.s.number c.args.writes.now c.args.known.now c.follow.new.known h k
    (seated-so (old.stand c.args.s.number) (h.seat c.args.s.number) (g.L.LineStore.agrees c.args.store.now h shown c.args.s.number) c.requires.seat)
    c.follow.ensures.agrees changes)
    c.in_ok-change.ensures.ok
