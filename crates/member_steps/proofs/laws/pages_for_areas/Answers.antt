use Rattle.std.proofs.Common.{arith}
use Rattle.member_steps.proofs.Ceilings.{for_said, for_unused}
use Rattle.member_steps.proofs.laws.pages_for_areas.Goals as goal

pub returns-clause-said : goal.returns-clause-said
returns-clause-said g c = let v = g.D.Disk.view c.args.disk.now in λ ledger place area was file plain said.
    for_said v (g.met.D.Disk.content_left c.args.disk.now v.moment c.requires (omega arith)) ledger place area was file plain said

pub returns-clause-unused : goal.returns-clause-unused
returns-clause-unused g c = λ place area stable none. for_unused (g.D.Disk.view c.args.disk.now) place area stable none
