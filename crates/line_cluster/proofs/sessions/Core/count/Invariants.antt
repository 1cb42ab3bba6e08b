use Rattle.std.proofs.Common.{◌≡◌, ◌<◌, ℕ, suc, Some, slice_get}
use Rattle.session_states.specs.declared.stage.Member.{Member}
use Rattle.line_cluster.specs.Turned.{rounds_at}
use Rattle.line_cluster.proofs.Bounds.{IsCounted}
use Rattle.line_cluster.proofs.sessions.Core.count.Given as goal

abbrev pub invariant-loop-at : goal.invariant-loop-at
invariant-loop-at g l = (i : ℕ) → i < l.at → (m : Member) → slice_get l.self.members.items i ≡ Some m → IsCounted (rounds_at l.self.allotments (suc i)) l.self.common.tree (suc i) m
