use Rattle.std.proofs.Common.{◌≡◌, length, drop}
use Rattle.access_paths.specs.Equated.{first_equated}
use Rattle.access_paths.proofs.Steps.{asked_by_tests}
use Rattle.access_paths.proofs.equated.equated_at.Given as goal

abbrev pub invariant-loop-test : goal.invariant-loop-test
invariant-loop-test l =
    first_equated l.rows (asked_by_tests (length l.rows) l.place l.tests) ≡ first_equated l.rows (asked_by_tests (length l.rows) l.place (drop l.test-index l.tests))
