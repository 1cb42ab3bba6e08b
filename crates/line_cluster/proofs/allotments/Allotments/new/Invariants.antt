use Rattle.std.proofs.Common.{◌≡◌, length}
use Rattle.line_cluster.proofs.allotments.Allotments.new.Given as goal

abbrev pub invariant-loop-place : goal.invariant-loop-place
invariant-loop-place l = length l.each.items ≡ l._place
