use Rattle.std.proofs.Common.{◌≡◌, length}
use Rattle.catalog.specs.Schema.{differ, same_field}
use Rattle.catalog.proofs.schema.fields_differ.Given as goal

abbrev pub invariant-loop-left : goal.invariant-loop-left
invariant-loop-left l = differ same_field l.left ≡ differ same_field l.fields

abbrev pub decreases-loop-left : goal.decreases-loop-left
decreases-loop-left l = length l.left
