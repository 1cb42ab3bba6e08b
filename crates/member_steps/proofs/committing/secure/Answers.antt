use Rattle.std.proofs.Common.{refl}
use Rattle.member_steps.proofs.OwnersSaid.{secured_facts}
use Rattle.member_steps.proofs.committing.secure.Goals as goal

pub returns-clause-goes_on : goal.returns-clause-goes_on
returns-clause-goes_on g c = let v = g.D.Disk.view in λ t ledger plan was facts.
    (secured_facts (v c.args.disk.now) (v c.settle.new.disk) ledger plan t c.settle.ensures.reads (c.in_ok-settle.ensures.stable t) (c.in_ok-settle.ensures.gains t ledger was) facts.0 facts.1, refl)
