use Rattle.std.proofs.Common.{◌≡◌, length, drop}
use Rattle.access_paths.specs.declared.limits.Limited.TheVariants.{Nothing}
use Rattle.access_paths.specs.Limits.{narrowed_from}
use Rattle.access_paths.proofs.Steps.{asked_by_tests}
use Rattle.access_paths.proofs.limits.limits_at.Given as goal

abbrev pub invariant-loop-test : goal.invariant-loop-test
invariant-loop-test l =
    narrowed_from l.rows Nothing (asked_by_tests (length l.rows) l.place l.tests) ≡ narrowed_from l.rows l.limited (asked_by_tests (length l.rows) l.place (drop l.test-index l.tests))
