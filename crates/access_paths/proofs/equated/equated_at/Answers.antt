use Rattle.access_paths.proofs.Steps.{equated_found, equated_passed}
use Rattle.access_paths.proofs.equated.equated_at.Goals as goal

pub returns-in-Some : goal.returns-in-Some
returns-in-Some c =
    equated_found _ _ _ _ c.test-item.result _ c.in_ok-equated.field-0 _ c.loop-test-test.true c.test-item.is c.loop-test.invariant c.in_ok-equated.ensures c.in-Some.is

pub loop-test-preserved : goal.loop-test-preserved
loop-test-preserved c =
    equated_passed _ _ _ _ c.test-item.result _ c.in_ok-equated.field-0 c.loop-test-test.true c.test-item.is c.loop-test.invariant c.in_ok-equated.ensures c.in_default.is
