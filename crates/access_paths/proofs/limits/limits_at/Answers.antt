use Rattle.access_paths.proofs.Steps.{narrowed_more}
use Rattle.access_paths.proofs.limits.limits_at.Goals as goal

pub loop-test-preserved : goal.loop-test-preserved
loop-test-preserved c =
    narrowed_more _ _ _ _ c.test-item.result _ _ _ c.loop-test-test.true c.test-item.is c.loop-test.invariant c.in_ok-limited.ensures
