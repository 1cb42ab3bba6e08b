use Rattle.std.proofs.Common.{sym, subst}
use Rattle.member_memory.specs.Memory.{Memory}
use Rattle.member_memory.specs.Changes.{Lays}
use Rattle.member_memory.proofs.Laying.{lays}
use Rattle.member_memory.proofs.lines.MemberLines.change.Goals as goal

pub returns-clause-lays : goal.returns-clause-lays
returns-clause-lays c =
    let adding = c.in_ok-add.ensures.added in
    subst (λ (m : Memory). Lays c.args.tsn c.args.writes.now c.args.self.now m) (λ i. record { lines = sym c.lay.ensures.lines i; keys = sym c.lay.ensures.keys i })
    (lays c.args.tsn c.args.writes.now c.args.self.now c.add.new.self adding.grows adding.added adding.kept.ordered)
