use Rattle.std.proofs.Common.{◌≡◌, true, ℕ, ◌<◌, length}
use Rattle.rdb_drive.specs.Bells.{AreSessions, Waits}
use Rattle.rdb_drive.proofs.bell.ring_for_woken.Given as goal

-- whoever waits of those that were asked is asleep
abbrev pub invariant-loop-number : goal.invariant-loop-number
invariant-loop-number g l = length l.marks ≡ 17 × AreSessions g.X.Driven.sessions l.marks × ((s : ℕ) → s < l.number → Waits l.marks s → (g.X.Driven.board l.driven).asleep s ≡ true)
