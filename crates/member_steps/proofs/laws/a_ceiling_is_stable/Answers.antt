use Rattle.member_steps.proofs.Ceilings.{stable_ceiling}
use Rattle.member_steps.proofs.laws.a_ceiling_is_stable.Goals as goal

pub returns : goal.returns
returns g c = λ root stands. stable_ceiling (g.D.Disk.view c.args.disk.now) c.requires root stands
