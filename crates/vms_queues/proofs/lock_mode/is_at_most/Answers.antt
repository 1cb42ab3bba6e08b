use Rattle.std.proofs.Common.{◌≡◌, rules}
use lib.Dec.{leb}
use denote.Enum.Declared.{tag_of}
use Rattle.vms_queues.specs.contracts.lock_mode.Mode.{the_type}
use Rattle.vms_queues.specs.Modes.{at_most}
use Rattle.vms_queues.proofs.ModeLaws.{at_most-SharesWherever}
use Rattle.vms_queues.proofs.lock_mode.is_at_most.Goals as goal

pub returns-in_default-clause-order : goal.returns-in_default-clause-order
returns-in_default-clause-order c =
    let by_rank : leb (tag_of the_type c.args.a) (tag_of the_type c.args.b) ≡ at_most c.args.a c.args.b = search rules in
    rw by_rank (at_most-SharesWherever c.args.a c.args.b)

pub returns-in-CW-PR-clause-order : goal.returns-in-CW-PR-clause-order
returns-in-CW-PR-clause-order c = rw (c.in-CW-PR.is-0, c.in-CW-PR.is-1) (at_most-SharesWherever _ _)

pub returns-in-CW-PR-2-clause-order : goal.returns-in-CW-PR-2-clause-order
returns-in-CW-PR-2-clause-order c = rw (c.in-CW-PR.is-0, c.in-CW-PR.is-1) (at_most-SharesWherever _ _)
