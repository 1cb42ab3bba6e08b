use Rattle.std.proofs.Common.{◌≡◌, map}
use Rattle.line_cluster.specs.Sound.{fresh_member, stop_of}
use Rattle.line_cluster.proofs.cluster.begin.Given as goal

abbrev pub invariant-loop-script : goal.invariant-loop-script
invariant-loop-script g l = (l.members.items ≡ map fresh_member l.yielded) × (l.stops.items ≡ map stop_of l.yielded)
