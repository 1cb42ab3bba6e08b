use Rattle.std.proofs.Common.{◌+◌, ◌++◌, ◌∙◌}
use Rattle.workload_scripts.specs.Texts.{store_text}
use Rattle.workload_scripts.proofs.Turns.{no_store, store_more}
use Rattle.workload_scripts.proofs.scripts.stores_text.Goals as goal

pub loop-account-init : goal.loop-account-init
loop-account-init c = no_store c.args.out.now

pub loop-account-preserved : goal.loop-account-preserved
loop-account-preserved c =
    c.in_ok-store_text.ensures
    ∙ (λ i. c.loop-account.invariant i ++ store_text (c.loop-account.account + 1))
    ∙ store_more c.args.out.now c.loop-account.account
