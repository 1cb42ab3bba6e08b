use Rattle.std.proofs.Common.{◌≡◌, drop}
use Rattle.rdb_checks.specs.Unreserved.{ranges_unreserved}
use Rattle.rdb_checks.proofs.uses.check_ranges_uses.Given as goal

abbrev pub invariant-loop-range : goal.invariant-loop-range
invariant-loop-range l =
    ranges_unreserved l.reservations l.ranges ≡ ranges_unreserved l.reservations (drop l.range-index l.ranges)
