use Rattle.std.proofs.Common.{arith}
use Rattle.std.proofs.lemmas.Grind.{common_steps}
use Rattle.vms_queues.proofs.Entries.{first_blocker_none}
use Rattle.vms_queues.proofs.held.find_blocker.Goals as goal

pub returns-clause-free : goal.returns-clause-free
returns-clause-free c =
    let e = first_blocker_none c.args.owner c.args.mode c.args.entries.now in
    grind (arith, common_steps, e)
