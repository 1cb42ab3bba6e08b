use Rattle.member_steps.proofs.Left.{may_be_left}
use Rattle.member_steps.proofs.reading.what_a_crash_leaves.Goals as goal

pub returns : goal.returns
returns g c = λ ledger image was left. may_be_left (g.D.Disk.view c.args.disk.now) ledger was image left
