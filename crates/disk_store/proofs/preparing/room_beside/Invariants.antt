use Rattle.std.proofs.Common.{◌≡◌, ◌+◌, ◌-◌}
use Rattle.disk_store.proofs.Aside.{aside_at, below}
use Rattle.disk_store.proofs.preparing.room_beside.Given as goal

abbrev pub invariant-loop-place : goal.invariant-loop-place
invariant-loop-place l = l.left + below (aside_at l.s.number l.members) (l.place - 1) ≡ l.room
