use Rattle.std.proofs.Common.{◌≤◌, ◌-◌, length}
use Rattle.rdb_tables.proofs.room.gap_from.Given as goal

abbrev pub invariant-loop-low : goal.invariant-loop-low
invariant-loop-low l = (l.start ≤ l.low) × (l.high ≤ length l.rows)

abbrev pub decreases-loop-low : goal.decreases-loop-low
decreases-loop-low l = l.high - l.low
