use Rattle.std.proofs.Common.{◌≡◌, length, nat_eq}
use Rattle.catalog.specs.Schema.{differ}
use Rattle.catalog.proofs.schema.positions_differ.Given as goal

abbrev pub invariant-loop-left : goal.invariant-loop-left
invariant-loop-left l = differ nat_eq l.left ≡ differ nat_eq l.positions

abbrev pub decreases-loop-left : goal.decreases-loop-left
decreases-loop-left l = length l.left
